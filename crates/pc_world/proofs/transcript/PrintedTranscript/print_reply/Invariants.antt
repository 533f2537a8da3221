-- Behind the first line stand the lines of the rows so far.
use Rattle.std.proofs.Common.{◌≡◌, ◌++◌, take}
use Rattle.pc_world.specs.Rows.{lines_of}
use Rattle.pc_world.specs.Steps.{shown}
use Rattle.pc_world.proofs.transcript.PrintedTranscript.print_reply.Given as goal

abbrev pub invariant-loop-row : goal.invariant-loop-row
invariant-loop-row l = l.self ≡ l.fn.self ++ shown l.heading l.head (lines_of (take l.row-index l.rows))
