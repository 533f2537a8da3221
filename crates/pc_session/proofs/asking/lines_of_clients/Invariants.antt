use Rattle.std.proofs.Common.{◌≡◌, map, take}
use Rattle.pc_session.specs.Lists.{row_line}
use Rattle.pc_session.proofs.asking.lines_of_clients.Given as goal

abbrev pub invariant-loop-row : goal.invariant-loop-row
invariant-loop-row g l = l.lines ≡ map (row_line (g.K.DeskAccess.told l.desk).latest) (take l.row-index l.rows)
