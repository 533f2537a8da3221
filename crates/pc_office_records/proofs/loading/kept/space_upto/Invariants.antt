use Rattle.std.proofs.Common.{◌≡◌, ◌+◌, ◌*◌, ◌≤◌, drop, cond, nat_lt}
use Rattle.pc_tables.specs.Table.{total}
use Rattle.pc_office_records.specs.declared.loading.kept.Row.{Row}
use Rattle.pc_office_records.specs.ReadKept.{space_in, upto_in}
use Rattle.pc_office_records.proofs.loading.kept.space_upto.Given as goal

-- the rows that are left make the sum whole
abbrev pub invariant-loop-row : goal.invariant-loop-row
invariant-loop-row l = record {
  left : l.sum + total (λ (row : Row). cond (nat_lt row.standing.noted l.number) (space_in l.size row) 0) (drop l.row-index l.rows) ≡ upto_in l.rows l.size l.number;
  most : l.sum ≤ 1024 * l.row-index;
}
