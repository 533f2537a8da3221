use Rattle.std.proofs.Common.{◌≡◌, drop}
use Rattle.std.specs.List.{list_all}
use Rattle.pc_office_records.specs.ReadKept.{is_light_in}
use Rattle.pc_office_records.proofs.loading.kept.are_light.Given as goal

-- those that are left decide
abbrev pub invariant-loop-row : goal.invariant-loop-row
invariant-loop-row l = list_all (is_light_in l.size) (drop l.row-index l.rows) ≡ list_all (is_light_in l.size) l.rows
