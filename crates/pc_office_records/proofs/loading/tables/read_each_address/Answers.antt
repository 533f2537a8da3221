use Rattle.std.proofs.Common.{[]}
use Rattle.std.specs.Map.{keys_of}
use Rattle.pc_fields.proofs.Follows.{match_err}
use Rattle.pc_office_spelling.specs.RecordFormat.{items_from, address_format}
use Rattle.pc_office_records.proofs.ReadItems.{items_more, items_halt, items_last}
use Rattle.pc_office_records.proofs.loading.tables.read_each_address.Goals as goal

pub returns-in_err-name : goal.returns-in_err-name
returns-in_err-name c =
    let item = address_format (keys_of c.args.users.now) in
    match_err c.from_residual.result c.in_err-name.field-0.0 _ _ c.from_residual.ensures
    (items_halt item c.args.count c.loop-taken._taken c.loop-taken.addresses.entries (items_from item c.args.count []) c.args.cursor.now c.loop-taken.cursor c.loop-taken-test.true c.loop-taken.invariant c.read_address.new.cursor c.in_err-name.field-0.0 c.in_err-name.ensures.read)

pub loop-taken-preserved : goal.loop-taken-preserved
loop-taken-preserved c =
    let item = address_format (keys_of c.args.users.now) in
    rw c.in_ok-put.ensures.ok (items_more item c.args.count c.loop-taken._taken c.loop-taken.addresses.entries (items_from item c.args.count []) c.args.cursor.now c.loop-taken.cursor c.loop-taken-test.true c.loop-taken.invariant c.read_address.new.cursor (c.in_ok-name.name, c.in_ok-name.target) c.in_ok-name.ensures.read)

pub returns : goal.returns
returns c =
    let item = address_format (keys_of c.args.users.now) in
    items_last item c.args.count c.loop-taken._taken c.loop-taken.addresses.entries (items_from item c.args.count []) c.args.cursor.now c.loop-taken.cursor c.loop-taken-test.false c.loop-taken.invariant
