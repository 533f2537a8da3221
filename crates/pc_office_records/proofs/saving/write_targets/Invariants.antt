use Rattle.std.proofs.Common.{◌≡◌, ◌++◌, drop}
use Rattle.std.specs.List.{flat_map, concat}
use Rattle.pc_office_spelling.specs.RecordSpelling.{target_fields}
use Rattle.pc_office_records.proofs.saving.write_targets.Given as goal

-- the targets that are left make the list whole
abbrev pub invariant-loop-target : goal.invariant-loop-target
invariant-loop-target l = l.out ++ concat (flat_map target_fields (drop l.target-index l.targets)) ≡ l.initial.out ++ concat (flat_map target_fields l.targets)
