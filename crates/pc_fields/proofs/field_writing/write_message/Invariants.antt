use Rattle.std.proofs.Common.{◌≡◌, ◌++◌, map, drop}
use Rattle.std.specs.List.{concat}
use Rattle.pc_fields.specs.FieldBytes.{line_field}
use Rattle.pc_fields.proofs.field_writing.write_message.Given as goal

-- the lines that are left make the message whole
abbrev pub invariant-loop-line : goal.invariant-loop-line
invariant-loop-line l = l.out ++ concat (map line_field (drop l.line-index l.lines)) ≡ l.initial.out ++ concat (map line_field l.lines)
