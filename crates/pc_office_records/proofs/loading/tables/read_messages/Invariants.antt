use Rattle.std.proofs.Common.{◌≡◌, ◌+◌, ◌-◌, ◌*◌, []}
use Rattle.pc_tables.specs.Table.{total}
use Rattle.pc_message.specs.Message.{weight_of}
use Rattle.pc_fields.proofs.Follows.{Follows}
use Rattle.pc_office_spelling.specs.RecordFormat.{items_from, message_format}
use Rattle.pc_office_records.proofs.loading.tables.read_messages.Given as goal

abbrev pub invariant-loop-taken : goal.invariant-loop-taken
invariant-loop-taken l = record {
  follows : Follows (items_from (message_format l.room) l.count []) (items_from (message_format l.room) (l.count - l._taken) l.messages) l.fn.cursor l.cursor;
  room : l.left + (total weight_of l.messages + 256 * (l.count - l._taken)) ≡ l.room;
}
