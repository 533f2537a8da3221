use Rattle.std.proofs.Common.{[]}
use Rattle.pc_fields.specs.Format.{Reads}
use Rattle.pc_office_spelling.specs.RecordFormat.{items_from, message_format}
use Rattle.pc_office_records.proofs.ReadItems.{items_more, items_halt, items_last, as_err}
use Rattle.pc_office_records.proofs.ReadTables.{message-read, room-left}
use Rattle.pc_office_records.proofs.loading.tables.read_messages.Goals as goal

pub returns-in_err-message-clause-read : goal.returns-in_err-message-clause-read
returns-in_err-message-clause-read c =
    let item = message_format c.args.room in
    let whole = items_from item c.args.count [] in
    as_err c.from_residual.result c.in_err-message.field-0.0 (λ read. Reads whole c.args.cursor.now c.read_message.new.cursor read) c.from_residual.ensures
    (items_halt item c.args.count c.loop-taken._taken c.loop-taken.messages whole c.args.cursor.now c.loop-taken.cursor c.loop-taken-test.true c.loop-taken.invariant.follows c.read_message.new.cursor c.in_err-message.field-0.0
    (message-read c.args.room c.loop-taken.left c.min.result c.args.count c.loop-taken._taken c.loop-taken.messages c.loop-taken-test.true c.loop-taken.invariant.room c.min.ensures c.loop-taken.cursor c.read_message.new.cursor _ c.in_err-message.ensures.read))

pub loop-taken-preserved : goal.loop-taken-preserved
loop-taken-preserved c =
    let item = message_format c.args.room in
    let whole = items_from item c.args.count [] in record {
      follows = rw c.in_ok-push.ensures.ok (items_more item c.args.count c.loop-taken._taken c.loop-taken.messages whole c.args.cursor.now c.loop-taken.cursor c.loop-taken-test.true c.loop-taken.invariant.follows c.read_message.new.cursor c.in_ok-message.message
          (message-read c.args.room c.loop-taken.left c.min.result c.args.count c.loop-taken._taken c.loop-taken.messages c.loop-taken-test.true c.loop-taken.invariant.room c.min.ensures c.loop-taken.cursor c.read_message.new.cursor _ c.in_ok-message.ensures.read));
      room = rw c.in_ok-push.ensures.ok (room-left c.args.room c.loop-taken.left c.min.result c.args.count c.loop-taken._taken c.loop-taken.messages c.loop-taken-test.true c.loop-taken.invariant.room c.min.ensures c.in_ok-message.message c.size-left.result c.in_ok-message.ensures.size c.size-left.ensures.size);
    }

pub returns-clause-read : goal.returns-clause-read
returns-clause-read c =
    let item = message_format c.args.room in
    items_last item c.args.count c.loop-taken._taken c.loop-taken.messages (items_from item c.args.count []) c.args.cursor.now c.loop-taken.cursor c.loop-taken-test.false c.loop-taken.invariant.follows
