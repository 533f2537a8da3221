use Rattle.std.proofs.Common.{◌≡◌, ◌==◌, map, length}
use Rattle.pc_cache_history.specs.Entry.{uid_of}
use Rattle.pc_cache_history.specs.Allowed.{are_different}
use Rattle.pc_cache.proofs.differing.are_apart.Given as goal

-- no uid comes twice exactly where none does among the rest
abbrev pub invariant-loop-rest : goal.invariant-loop-rest
invariant-loop-rest l = are_different ◌==◌ (map uid_of l.changes) ≡ are_different ◌==◌ (map uid_of l.rest)

abbrev pub decreases-loop-rest : goal.decreases-loop-rest
decreases-loop-rest l = length l.rest
