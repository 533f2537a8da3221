-- Behind the text stand the lines of the rows so far.
use Rattle.std.proofs.Common.{◌≡◌, ◌++◌, map, take}
use Rattle.pc_world.specs.Rows.{lines_of}
use Rattle.pc_world.specs.Runs.{text_of}
use Rattle.pc_world.specs.Steps.{indented}
use Rattle.pc_world.proofs.transcript.print_rows.Given as goal

abbrev pub invariant-loop-row : goal.invariant-loop-row
invariant-loop-row l = l.text.items ≡ l.initial.text.items ++ text_of (map indented (lines_of (take l.row-index l.rows)))
