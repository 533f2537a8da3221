use Rattle.std.proofs.Common.{◌≡◌, take}
use Rattle.pc_account.proofs.forgetting.uids_of.Given as goal

abbrev pub invariant-loop-uid : goal.invariant-loop-uid
invariant-loop-uid l = l.uids ≡ take l.uid-index l.all
