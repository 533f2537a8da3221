use Rattle.std.proofs.Common.{◌+◌, ◌-◌, ◌*◌, ◌≤◌, []}
use Rattle.pc_account_spelling.specs.RecordFormat.{messages_from}
use Rattle.pc_fields.proofs.Follows.{Follows}
use Rattle.pc_account_spelling.proofs.spelling.message_reading.read_messages.Given as goal

abbrev pub invariant-loop-taken : goal.invariant-loop-taken
invariant-loop-taken l = record {
  follows : Follows (messages_from l.highest l.count 0 l.weight []) (messages_from l.highest (l.count - l.taken) l.low l.room l.messages.items) l.fn.cursor l.cursor;
  given : l.low + (l.count - l.taken) ≤ l.highest;
  enough : 256 * (l.count - l.taken) ≤ l.room;
}
