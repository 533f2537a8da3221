use Rattle.std.proofs.Common.{◌≡◌, ◌+◌, ◌≤◌, drop, filter, length}
use Rattle.pc_office_records.specs.ReadKept.{is_open_row, count_open}
use Rattle.pc_office_records.proofs.loading.kept.count_open.Given as goal

-- the rows that are left make the count whole
abbrev pub invariant-loop-row : goal.invariant-loop-row
invariant-loop-row l = record {
  left : l.count + length (filter (is_open_row l.number) (drop l.row-index l.rows)) ≡ count_open l.rows l.number;
  most : l.count ≤ l.row-index;
}
