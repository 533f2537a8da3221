use Rattle.std.proofs.Common.{◌≡◌, ◌≤◌, ◌*◌, take}
use Rattle.pc_mailbox.specs.Growth.{unlisted_by_all}
use Rattle.pc_mailbox.proofs.growth.count_unlisted_by_all.Given as goal

abbrev pub invariant-loop-entry : goal.invariant-loop-entry
invariant-loop-entry l = record { so_far : l.count ≡ unlisted_by_all l.deleted_only l.messages (take l.entry-index l.lists); bound : l.count ≤ 4096 * l.entry-index }
