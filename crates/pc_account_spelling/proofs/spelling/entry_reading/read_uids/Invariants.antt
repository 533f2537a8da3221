use Rattle.std.proofs.Common.{◌-◌}
use Rattle.pc_fields.specs.Format.{repeated}
use Rattle.pc_account_spelling.specs.EntryFormat.{uid_format}
use Rattle.pc_fields.proofs.ReadLoops.{Continues}
use Rattle.pc_account_spelling.proofs.spelling.entry_reading.read_uids.Given as goal

abbrev pub invariant-loop-taken : goal.invariant-loop-taken
invariant-loop-taken l = Continues (repeated l.count uid_format) (repeated (l.count - l._taken) uid_format) l.fn.cursor l.cursor l.uids
