use Rattle.std.proofs.Common.{◌≡◌, ◌++◌, map, drop}
use Rattle.std.specs.List.{concat}
use Rattle.pc_fields.specs.FieldBytes.{name_field}
use Rattle.pc_office_spelling.proofs.entry_writing.write_each.Given as goal

-- the names that are left make the list whole
abbrev pub invariant-loop-name : goal.invariant-loop-name
invariant-loop-name l = l.out ++ concat (map name_field (drop l.name-index l.names)) ≡ l.fn.out ++ concat (map name_field l.names)
