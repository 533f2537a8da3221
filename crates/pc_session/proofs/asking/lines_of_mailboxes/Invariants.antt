use Rattle.std.proofs.Common.{◌≡◌, take}
use Rattle.pc_session.specs.Lists.{mailbox_lines}
use Rattle.pc_session.proofs.asking.lines_of_mailboxes.Given as goal

abbrev pub invariant-loop-row : goal.invariant-loop-row
invariant-loop-row l = l.lines ≡ mailbox_lines (take l.row-index l.rows)
