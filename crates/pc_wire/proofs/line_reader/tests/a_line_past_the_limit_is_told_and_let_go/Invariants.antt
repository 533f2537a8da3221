use Rattle.std.proofs.Common.{◌≡◌}
use Rattle.pc_wire.specs.Reader.{no_line}
use Rattle.pc_wire.proofs.line_reader.tests.a_line_past_the_limit_is_told_and_let_go.Given as goal

abbrev pub invariant-loop-line : goal.invariant-loop-line
invariant-loop-line g l = l.reader.waits ≡ no_line
