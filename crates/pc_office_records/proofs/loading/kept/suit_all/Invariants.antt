use Rattle.std.proofs.Common.{◌≡◌, drop}
use Rattle.std.specs.List.{list_all}
use Rattle.pc_office_records.specs.ReadKept.{suits_in}
use Rattle.pc_office_records.proofs.loading.kept.suit_all.Given as goal

-- those that are left decide
abbrev pub invariant-loop-row : goal.invariant-loop-row
invariant-loop-row l = list_all (suits_in l.rows l.size l.accepted l.count l.taken) (drop l.row-index l.rows) ≡ list_all (suits_in l.rows l.size l.accepted l.count l.taken) l.rows
