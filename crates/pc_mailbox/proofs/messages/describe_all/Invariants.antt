use Rattle.std.proofs.Common.{◌≡◌, take, map}
use Rattle.pc_message.specs.declared.descriptor.Change.TheVariants.{Present}
use Rattle.pc_account_history.specs.declared.kept.Kept.{Kept}
use Rattle.pc_account_history.specs.Answers.{descriptor_at}
use Rattle.pc_mailbox.proofs.messages.describe_all.Given as goal

abbrev pub invariant-loop-kept : goal.invariant-loop-kept
invariant-loop-kept l = l.changes ≡ map (λ (kept : Kept). Present (descriptor_at kept)) (take l.kept-index l.told)
