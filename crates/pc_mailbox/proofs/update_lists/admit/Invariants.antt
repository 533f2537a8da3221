use Rattle.std.proofs.Common.{◌≡◌, true, take}
use Rattle.pc_mailbox.specs.UpdateList.{are_on, Grown}
use Rattle.pc_mailbox.proofs.update_lists.admit.Given as goal

abbrev pub invariant-loop-uid : goal.invariant-loop-uid
invariant-loop-uid l = record { grown : Grown l.uids l.initial.list l.list; on : are_on (take l.uid-index l.uids) l.list ≡ true }
