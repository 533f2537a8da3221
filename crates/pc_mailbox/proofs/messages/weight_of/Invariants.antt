use Rattle.std.proofs.Common.{◌≡◌, ◌≤◌, ◌*◌, take}
use Rattle.pc_mailbox.specs.Mailbox.{weight_of_all}
use Rattle.pc_mailbox.proofs.messages.weight_of.Given as goal

abbrev pub invariant-loop-kept : goal.invariant-loop-kept
invariant-loop-kept l = record { so_far : l.weight ≡ weight_of_all (take l.kept-index l.messages); bound : l.weight ≤ 65792 * l.kept-index }
