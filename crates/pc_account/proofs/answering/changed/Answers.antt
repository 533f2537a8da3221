use Rattle.std.proofs.Common.{map, refl, sym, ◌∙◌, ap}
use Rattle.pc_account.specs.declared.answer.Answer.TheVariants as answer
use Rattle.pc_account.specs.Answers.{told_of}
use Rattle.pc_account.proofs.Found.{live-found}
use Rattle.pc_account.proofs.Told.{lives, dead}
use Rattle.pc_account.proofs.answering.changed.Goals as goal

pub returns-in_default-clause-told : goal.returns-in_default-clause-told
returns-in_default-clause-told c = rw (sym c.is_client.ensures ∙ c.if-not-is_client.false, dead c.args.holdings.now.held c.args.mailbox.now (sym c.in_default.ensures)) refl

pub returns-clause-told : goal.returns-clause-told
returns-clause-told c =
    let r = c.args.holdings.now.held in
    let number = c.args.holdings.now.next in
    let mailbox = c.args.mailbox.now in
    let box = c.in-Some.holder.now in
    rw (sym c.is_client.ensures ∙ c.if-not-is_client.false, lives r mailbox box c.in-Some.ensures, live-found r mailbox box c.in-Some.ensures)
    (λ i. answer.Changed ((c.in-Ok-changes_of.ensures ∙ ap (map (told_of box)) c.in-Ok.ensures.value) i) (c.in-Ok.ensures.value i))

pub returns-in_default-changed-clause-memory : goal.returns-in_default-changed-clause-memory
returns-in_default-changed-clause-memory c = rw (sym c.is_client.ensures ∙ c.if-not-is_client.false, lives c.args.holdings.now.held c.args.mailbox.now c.in-Some.holder.now c.in-Some.ensures) (λ h. h)

pub returns-in_default-changes_of-clause-memory : goal.returns-in_default-changes_of-clause-memory
returns-in_default-changes_of-clause-memory c = rw (sym c.is_client.ensures ∙ c.if-not-is_client.false, lives c.args.holdings.now.held c.args.mailbox.now c.in-Some.holder.now c.in-Some.ensures) (λ h. h)
