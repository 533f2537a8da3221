-- The size so far and that of the lines that are left are the size of all, and the lines so far are lines.
use Rattle.std.proofs.Common.{◌≡◌, ◌+◌, ◌≤◌, true, drop, take}
use Rattle.std.specs.List.{list_all}
use Rattle.pc_base.specs.Line.{is_line}
use Rattle.pc_message.specs.Message.{size_of}
use Rattle.pc_message.proofs.message.size_within.Given as goal

abbrev pub invariant-loop-line : goal.invariant-loop-line
invariant-loop-line l = record {
  whole : l.size + size_of (drop l.line-index l.lines) ≡ size_of l.lines;
  bound : l.size ≤ 65536;
  fitting : list_all is_line (take l.line-index l.lines) ≡ true;
}
