use Rattle.std.proofs.Common.{◌≡◌, map, take}
use Rattle.arrayvec.specs.ArrayVec.{array_vec_len}
use Rattle.pc_cache_history.specs.Entry.{uid_of}
use Rattle.pc_cache.proofs.differing.differ_in_order.Given as goal

-- the uids of the changes so far
abbrev pub invariant-loop-change : goal.invariant-loop-change
invariant-loop-change l = (l.uids.items ≡ map uid_of (take l.change-index l.changes)) × (array_vec_len l.uids ≡ l.change-index)
