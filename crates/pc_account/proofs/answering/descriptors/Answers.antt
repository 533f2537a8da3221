use Rattle.std.proofs.Common.{◌&&◌, nat_le, List, map, refl, sym, ◌∙◌, ap}
use Rattle.std.specs.List.{filter}
use Rattle.pc_account_history.specs.declared.kept.Kept.{Kept}
use Rattle.pc_account.specs.declared.answer.Answer.TheVariants as answer
use Rattle.pc_account.proofs.Found.{live-messages}
use Rattle.pc_message.specs.declared.descriptor.Change.TheVariants.{Present}
use Rattle.pc_account_history.specs.Answers.{descriptor_at}
use Rattle.pc_account.proofs.Told.{lives, dead}
use Rattle.pc_account.proofs.answering.descriptors.Goals as goal

pub returns-in_default-clause-told : goal.returns-in_default-clause-told
returns-in_default-clause-told c = rw (dead c.args.holdings.now.held c.args.mailbox.now (sym c.in_default.ensures)) refl

pub returns-clause-told : goal.returns-clause-told
returns-clause-told c =
    let r = c.args.holdings.now.held in
    let number = c.args.holdings.now.next in
    let mailbox = c.args.mailbox.now in
    let box = c.in-Some.holder.now in
    rw (lives r mailbox box c.in-Some.ensures) (ap answer.Descriptors (c.in-Ok.ensures.value ∙ sym (ap (λ (messages : List Kept). map (λ (kept : Kept). Present (descriptor_at kept)) (filter (λ (kept : Kept). nat_le c.args.low kept.uid && nat_le kept.uid c.args.high) messages)) (live-messages r number mailbox box c.requires.well_formed c.in-Some.ensures))))

pub returns-in_default-descriptors-clause-memory : goal.returns-in_default-descriptors-clause-memory
returns-in_default-descriptors-clause-memory c = rw (lives c.args.holdings.now.held c.args.mailbox.now c.in-Some.holder.now c.in-Some.ensures) (λ h. h)
