use Rattle.std.proofs.Common.{◌≡◌, ◌++◌, drop}
use Rattle.std.specs.List.{flat_map, concat}
use Rattle.pc_office_spelling.specs.RecordSpelling.{kept_fields}
use Rattle.pc_office_records.specs.Saving.{HaveFewTargets}
use Rattle.pc_office_records.proofs.saving.write_each_kept.Given as goal

-- the mails that are left make the list whole
abbrev pub invariant-loop-mail : goal.invariant-loop-mail
invariant-loop-mail l = record {
  whole : l.out ++ concat (flat_map kept_fields (drop l.mail-index l.kept)) ≡ l.fn.out ++ concat (flat_map kept_fields l.kept);
  few : HaveFewTargets (drop l.mail-index l.kept);
}
