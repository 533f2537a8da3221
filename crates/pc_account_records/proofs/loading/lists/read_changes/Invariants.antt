use Rattle.std.proofs.Common.{◌≡◌, ◌-◌, [], length}
use Rattle.pc_account_spelling.specs.RecordFormat.{changes_from}
use Rattle.pc_fields.proofs.Follows.{Follows}
use Rattle.pc_account_records.specs.ReadList.{HasRoom}
use Rattle.pc_account_records.proofs.loading.lists.read_changes.Given as goal

abbrev pub invariant-loop-taken : goal.invariant-loop-taken
invariant-loop-taken l = record {
  follows : Follows (changes_from l.highest l.count l.birth 0 []) (changes_from l.highest (l.count - l.taken) l.last.stamp l.last.uid l.list) l.fn.cursor l.cursor;
  room : HasRoom l.highest (l.count - l.taken) l.list l.tally;
  counted : length l.list ≡ l.taken;
}
