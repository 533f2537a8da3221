use Rattle.std.proofs.Common.{◌≡◌}
use Rattle.pc_wire.specs.Reader.{no_line}
use Rattle.pc_wire.proofs.line_reader.tests.failures_in_lines.Given as goal

abbrev pub invariant-loop-line : goal.invariant-loop-line
invariant-loop-line g l = l.reader.waits ≡ no_line
