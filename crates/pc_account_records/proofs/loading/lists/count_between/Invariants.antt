use Rattle.std.proofs.Common.{◌≡◌, ◌+◌, ◌≤◌}
use Rattle.pc_account_spelling.specs.RecordFormat.{above}
use Rattle.pc_account_records.proofs.loading.lists.count_between.Given as goal

abbrev pub invariant-loop-passed : goal.invariant-loop-passed
invariant-loop-passed l = record {
  counted : l.count + above l.passed l.list ≡ above l.low l.list;
  few : l.count + l.low ≤ l.passed;
}
