use Rattle.std.proofs.Common.{refl, sym}
use Rattle.pc_account_history.specs.Record.{kept_at}
use Rattle.pc_account.proofs.Found.{live-found}
use Rattle.pc_account.proofs.Told.{lives, dead, letter-gone, letter-there, letter-taken}
use Rattle.pc_account.proofs.answering.letter.Goals as goal

pub returns-in_default-clause-told : goal.returns-in_default-clause-told
returns-in_default-clause-told c = rw (dead c.args.holdings.now.held c.args.mailbox.now (sym c.in_default.ensures)) refl

pub returns-in_default-body-clause-told : goal.returns-in_default-body-clause-told
returns-in_default-body-clause-told c =
    let r = c.args.holdings.now.held in
    let number = c.args.holdings.now.next in
    let mailbox = c.args.mailbox.now in
    let box = c.in-Some.holder.now in
    rw (lives r mailbox box c.in-Some.ensures, live-found r mailbox box c.in-Some.ensures) (letter-gone (kept_at c.args.uid box.messages) c.in_default-body.ensures.value)

pub returns-clause-told : goal.returns-clause-told
returns-clause-told c =
    let r = c.args.holdings.now.held in
    let number = c.args.holdings.now.next in
    let mailbox = c.args.mailbox.now in
    let box = c.in-Some.holder.now in
    rw (lives r mailbox box c.in-Some.ensures, live-found r mailbox box c.in-Some.ensures, c.in-Ok.ensures) (letter-there (kept_at c.args.uid box.messages) c.in-Some-body.message.now c.in-Some-body.ensures.value)

pub returns-in_default-copy-clause-memory : goal.returns-in_default-copy-clause-memory
returns-in_default-copy-clause-memory c =
    let r = c.args.holdings.now.held in
    let mailbox = c.args.mailbox.now in
    let box = c.in-Some.holder.now in
    rw (lives r mailbox box c.in-Some.ensures, live-found r mailbox box c.in-Some.ensures) (letter-taken (kept_at c.args.uid box.messages) c.in-Some-body.message.now c.in-Some-body.ensures.value)
