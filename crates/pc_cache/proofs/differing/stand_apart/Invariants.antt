use Rattle.std.proofs.Common.{◌≡◌, length}
use Rattle.pc_tables.specs.Table.{same}
use Rattle.pc_cache_history.specs.Allowed.{are_different}
use Rattle.pc_cache.proofs.differing.stand_apart.Given as goal

-- no name comes twice exactly where none does among the rest
abbrev pub invariant-loop-rest : goal.invariant-loop-rest
invariant-loop-rest l = are_different same l.names ≡ are_different same l.rest

abbrev pub decreases-loop-rest : goal.decreases-loop-rest
decreases-loop-rest l = length l.rest
