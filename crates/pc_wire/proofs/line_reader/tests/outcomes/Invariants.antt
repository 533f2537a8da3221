use Rattle.std.proofs.Common.{◌≡◌}
use Rattle.pc_wire.specs.Reader.{no_line}
use Rattle.pc_wire.proofs.line_reader.tests.outcomes.Given as goal

abbrev pub invariant-loop-turn : goal.invariant-loop-turn
invariant-loop-turn l = l.reader.waits ≡ no_line
