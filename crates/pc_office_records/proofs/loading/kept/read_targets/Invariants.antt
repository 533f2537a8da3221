use Rattle.std.proofs.Common.{◌-◌, []}
use Rattle.pc_fields.proofs.Follows.{Follows}
use Rattle.pc_office_spelling.specs.RecordFormat.{items_from, target_format}
use Rattle.pc_office_records.specs.ReadKept.{open_in, AreOpen}
use Rattle.pc_office_records.proofs.loading.kept.read_targets.Given as goal

abbrev pub invariant-loop-taken : goal.invariant-loop-taken
invariant-loop-taken l = record {
  follows : Follows (items_from (target_format (open_in l.users l.number)) l.many []) (items_from (target_format (open_in l.users l.number)) (l.many - l._taken) l.targets) l.fn.cursor l.cursor;
  opens : AreOpen l.users l.number l.targets;
}
