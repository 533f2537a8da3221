use Rattle.std.proofs.Common.{◌-◌, ◌≤◌}
use Rattle.pc_office_spelling.specs.Spaces.{greatest}
use Rattle.pc_office_records.specs.ReadKept.{may_in}
use Rattle.pc_office_records.proofs.loading.kept.most_size.Given as goal

-- the greatest size lies between
abbrev pub invariant-loop-low : goal.invariant-loop-low
invariant-loop-low l = record {
  above : l.low ≤ greatest (may_in l.rows l.accepted l.count) 65536;
  below : greatest (may_in l.rows l.accepted l.count) 65536 ≤ l.high;
  most : l.high ≤ 65536;
}

abbrev pub decreases-loop-low : goal.decreases-loop-low
decreases-loop-low l = l.high - l.low
