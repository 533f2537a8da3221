use Rattle.std.proofs.Common.{◌≡◌, take}
use Rattle.std.specs.List.{flat_map}
use Rattle.pc_reply.specs.Items.{change_lines}
use Rattle.pc_session.proofs.asking.lines_of_changes.Given as goal

abbrev pub invariant-loop-change : goal.invariant-loop-change
invariant-loop-change l = l.lines ≡ flat_map change_lines (take l.change-index l.changes)
