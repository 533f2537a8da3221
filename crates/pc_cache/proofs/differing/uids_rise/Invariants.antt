use Rattle.std.proofs.Common.{◌≡◌, map, drop}
use Rattle.pc_tables.specs.Order.{rises_from}
use Rattle.pc_cache_history.specs.Entry.{uid_of}
use Rattle.pc_cache.proofs.differing.uids_rise.Given as goal

-- the uids rise exactly where the rest do from the last one on
abbrev pub invariant-loop-change : goal.invariant-loop-change
invariant-loop-change l = rises_from 0 (map uid_of l.changes) ≡ rises_from l.last (map uid_of (drop l.change-index l.changes))
