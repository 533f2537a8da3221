use Rattle.std.proofs.Common.{◌++◌, []}
use Rattle.std.specs.Map.{keys_of}
use Rattle.pc_fields.specs.Format.{Reads}
use Rattle.pc_office_spelling.specs.RecordFormat.{items_from, board_format}
use Rattle.pc_office_records.proofs.ReadItems.{items_more, items_halt, items_last, as_err}
use Rattle.pc_office_records.proofs.loading.tables.read_each_board.Goals as goal

pub returns-in_err-name : goal.returns-in_err-name
returns-in_err-name c =
    let item = board_format (keys_of c.args.users.now ++ keys_of c.args.addresses.now.entries) in
    let whole = items_from item c.args.count [] in
    as_err c.from_residual.result c.in_err-name.field-0.0 (λ read. Reads whole c.args.cursor.now c.read_board.new.cursor read) c.from_residual.ensures
    (items_halt item c.args.count c.loop-taken._taken c.loop-taken.boards whole c.args.cursor.now c.loop-taken.cursor c.loop-taken-test.true c.loop-taken.invariant.follows c.read_board.new.cursor c.in_err-name.field-0.0 c.in_err-name.ensures.read)

pub loop-taken-preserved : goal.loop-taken-preserved
loop-taken-preserved c =
    let item = board_format (keys_of c.args.users.now ++ keys_of c.args.addresses.now.entries) in
    let whole = items_from item c.args.count [] in record {
      follows = rw c.in_ok-put.ensures (items_more item c.args.count c.loop-taken._taken c.loop-taken.boards whole c.args.cursor.now c.loop-taken.cursor c.loop-taken-test.true c.loop-taken.invariant.follows c.read_board.new.cursor (c.in_ok-name.name, c.in_ok-name.messages) c.in_ok-name.ensures.read);
      light = rw c.in_ok-put.ensures c.in_ok-name.ensures.light;
    }

pub returns : goal.returns
returns c =
    let item = board_format (keys_of c.args.users.now ++ keys_of c.args.addresses.now.entries) in
    items_last item c.args.count c.loop-taken._taken c.loop-taken.boards (items_from item c.args.count []) c.args.cursor.now c.loop-taken.cursor c.loop-taken-test.false c.loop-taken.invariant.follows
