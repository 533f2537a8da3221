use Rattle.std.proofs.Common.{◌-◌, [], map}
use Rattle.pc_fields.proofs.Follows.{Follows}
use Rattle.pc_office_spelling.specs.RecordFormat.{items_from, user_format}
use Rattle.pc_office_holdings.specs.Held.{noted_of}
use Rattle.pc_office_records.specs.Loading.{AreUncounted}
use Rattle.pc_office_records.proofs.loading.tables.read_each_user.Given as goal

abbrev pub invariant-loop-taken : goal.invariant-loop-taken
invariant-loop-taken l = record {
  follows : Follows (items_from user_format l.count []) (items_from user_format (l.count - l._taken) (map noted_of l.users)) l.fn.cursor l.cursor;
  uncounted : AreUncounted l.users;
}
