use Rattle.std.proofs.Common.{◌≡◌, ◌≤◌, ◌*◌, take}
use Rattle.pc_mailbox.specs.UpdateList.{listed_in}
use Rattle.pc_mailbox.proofs.update_lists.count_listed.Given as goal

abbrev pub invariant-loop-entry : goal.invariant-loop-entry
invariant-loop-entry l = record { so_far : l.listed ≡ listed_in (take l.entry-index l.lists); bound : l.listed ≤ 4294967295 * l.entry-index }
