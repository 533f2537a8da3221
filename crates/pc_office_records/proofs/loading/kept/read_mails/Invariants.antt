use Rattle.std.proofs.Common.{◌≡◌, ◌-◌, [], map}
use Rattle.pc_fields.proofs.Follows.{Follows}
use Rattle.pc_office_spelling.specs.RecordFormat.{items_from, kept_format}
use Rattle.pc_office_holdings.specs.Held.{noted_of}
use Rattle.pc_office_records.specs.ReadKept.{AreTallied, IsLast}
use Rattle.pc_office_records.proofs.loading.kept.read_mails.Given as goal

abbrev pub invariant-loop-taken : goal.invariant-loop-taken
invariant-loop-taken l = record {
  follows : Follows (items_from (kept_format (map noted_of l.fn.users) l.accepted) l.count []) (items_from (kept_format (map noted_of l.fn.users) l.accepted) (l.count - l.taken) l.kept.items) l.fn.cursor l.cursor;
  same : map noted_of l.users ≡ map noted_of l.fn.users;
  tallied : AreTallied l.kept.items l.users;
  last : IsLast l.kept.items l.last;
}
