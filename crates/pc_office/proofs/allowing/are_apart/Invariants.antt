use Rattle.std.proofs.Common.{◌≡◌, length}
use Rattle.pc_office_history.specs.Allowed.{are_apart}
use Rattle.pc_office.proofs.allowing.are_apart.Given as goal

-- no name comes twice exactly where none does among the rest
abbrev pub invariant-loop-rest : goal.invariant-loop-rest
invariant-loop-rest l = are_apart l.names ≡ are_apart l.rest

abbrev pub decreases-loop-rest : goal.decreases-loop-rest
decreases-loop-rest l = length l.rest
