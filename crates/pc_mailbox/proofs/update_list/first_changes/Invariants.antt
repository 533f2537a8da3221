use Rattle.std.proofs.Common.{◌≡◌, ◌≤◌, ◌++◌, vec_len}
use Rattle.pc_mailbox.specs.UpdateList.{changes_of}
use Rattle.pc_mailbox.proofs.update_list.first_changes.Given as goal

abbrev pub invariant-loop-uid : goal.invariant-loop-uid
invariant-loop-uid l = record { front : l.changes.items ++ changes_of l.uid-iterator ≡ changes_of l.stamps.entries; within : vec_len l.changes ≤ l.count }
