use Rattle.std.proofs.Common.{◌≡◌, ◌++◌}
use Rattle.std.specs.List.{flat_map, concat}
use Rattle.pc_office_spelling.specs.RecordSpelling.{address_fields}
use Rattle.pc_office_records.proofs.saving.write_addresses.Given as goal

-- the addresses that are left make the list whole
abbrev pub invariant-loop-name : goal.invariant-loop-name
invariant-loop-name l = l.out ++ concat (flat_map address_fields l.name-iterator) ≡ l.initial.out ++ concat (flat_map address_fields l.addresses.entries)
