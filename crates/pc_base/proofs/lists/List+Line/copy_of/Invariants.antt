-- The lines so far are copied.
use Rattle.std.proofs.Common.{◌≡◌, take}
use Rattle.pc_base.proofs.lists.List+Line.copy_of.Given as goal

abbrev pub invariant-loop-line : goal.invariant-loop-line
invariant-loop-line l = l.copy ≡ take l.line-index l.lines
