use Rattle.std.proofs.Common.{◌-◌}
use Rattle.pc_fields.specs.Format.{repeated}
use Rattle.pc_office_spelling.specs.EntryFormat.{name_format}
use Rattle.pc_fields.proofs.ReadLoops.{Continues}
use Rattle.pc_office_spelling.proofs.entry_reading.read_each.Given as goal

abbrev pub invariant-loop-taken : goal.invariant-loop-taken
invariant-loop-taken l = Continues (repeated l.count name_format) (repeated (l.count - l._taken) name_format) l.fn.cursor l.cursor l.names
