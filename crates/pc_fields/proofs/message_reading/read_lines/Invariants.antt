use Rattle.std.proofs.Common.{◌≡◌, ◌+◌, ◌-◌, ◌*◌}
use Rattle.pc_message.specs.Message.{size_of}
use Rattle.pc_fields.specs.MessageFormat.{lines_format}
use Rattle.pc_fields.proofs.ReadLoops.{Continues}
use Rattle.pc_fields.proofs.message_reading.read_lines.Given as goal

abbrev pub invariant-loop-taken : goal.invariant-loop-taken
invariant-loop-taken l = record {
  continues : Continues (lines_format l.count l.most) (lines_format (l.count - l._taken) l.room) l.fn.cursor l.cursor l.lines;
  size : size_of l.lines + l.room ≡ 2 * l._taken + l.most;
}
