use Rattle.std.proofs.Common.{◌∙◌, ℕ, [], ◌∷◌, sym, ap}
use Rattle.pc_account_history.specs.Record.{MailboxRecord, kept_at}
use Rattle.pc_account_history.specs.Known.{said_by}
use Rattle.pc_account_history.proofs.Needs.{copy-parts}
use Rattle.pc_account_holdings.specs.State.{said}
use Rattle.pc_account.specs.Limits.{limit_of_parcels}
use Rattle.pc_account.proofs.Found.{not-dead, live-found}
use Rattle.pc_account.proofs.Brought.{copied-limit}
use Rattle.pc_account.proofs.limits.limit_of_copied.Goals as goal

pub returns-in_err-mailbox : goal.returns-in_err-mailbox
returns-in_err-mailbox c =
    let r = c.args.holdings.now.held in
    absurd (not-dead r c.args.mailbox.now (copy-parts (said_by r c.args.holdings.now.next) c.args.mailbox.now c.args.uid c.args.target.now c.requires.allowed).0 (sym c.in_err-mailbox.ensures))

pub returns : goal.returns
returns c =
    let r = c.args.holdings.now.held in
    let number = c.args.holdings.now.next in
    let mailbox = c.args.mailbox.now in
    let message = c.in_ok-message.message.now in
    let box = c.in_ok-mailbox.field-0.now in
    c.limit_of_parcels.ensures
    ∙ ap (λ (size : ℕ). limit_of_parcels (said c.args.holdings.now) ((c.args.target.now, size) ∷ [])) c.size.ensures.size
    ∙ copied-limit r number mailbox c.args.uid c.args.target.now message (kept_at c.args.uid box.messages) c.requires.canonical c.requires.allowed (ap (λ (b : MailboxRecord). kept_at c.args.uid b.messages) (live-found r mailbox box c.in_ok-mailbox.ensures)) c.in_ok-message.ensures.value
