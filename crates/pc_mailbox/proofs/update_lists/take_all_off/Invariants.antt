use Rattle.std.proofs.Common.{◌≡◌, take}
use Rattle.pc_account_history.specs.Step.{without}
use Rattle.pc_mailbox.proofs.update_lists.take_all_off.Given as goal

abbrev pub invariant-loop-uid : goal.invariant-loop-uid
invariant-loop-uid l = l.list ≡ without (take l.uid-index l.uids) l.initial.list
