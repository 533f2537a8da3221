use Rattle.std.proofs.Common.{◌≡◌, take}
use Rattle.pc_account_history.specs.Step.{touched}
use Rattle.pc_mailbox.proofs.update_lists.touch_all.Given as goal

abbrev pub invariant-loop-uid : goal.invariant-loop-uid
invariant-loop-uid l = l.list ≡ touched l.at (take l.uid-index l.uids) l.initial.list
