use Rattle.std.proofs.Common.{◌≡◌, drop}
use Rattle.pc_tables.specs.Order.{rises_from}
use Rattle.pc_account.proofs.allowing.rise.Given as goal

-- the uids rise exactly where the rest do from the last one on
abbrev pub invariant-loop-uid : goal.invariant-loop-uid
invariant-loop-uid l = rises_from 0 l.uids ≡ rises_from l.last (drop l.uid-index l.uids)
