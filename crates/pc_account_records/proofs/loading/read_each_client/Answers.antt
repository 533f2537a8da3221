use Rattle.std.proofs.Common.{[]}
use Rattle.pc_account_spelling.specs.RecordFormat.{clients_from}
use Rattle.pc_fields.proofs.Follows.{match_err}
use Rattle.pc_account_records.proofs.ReadTables.{clients_no_name, clients_no_birth, clients_more, clients_born, clients_last}
use Rattle.pc_account_records.proofs.loading.read_each_client.Goals as goal

pub returns-in_err-name : goal.returns-in_err-name
returns-in_err-name c =
    match_err c.from_residual.result c.in_err-name.field-0.0 _ _ c.from_residual.ensures
    (clients_no_name c.args.count c.loop-taken.taken c.loop-taken.low c.loop-taken.clients.entries (clients_from c.args.count 0 []) c.args.cursor.now c.loop-taken.cursor c.loop-taken-test.true c.loop-taken.invariant.follows c.read_new_name.new.cursor c.in_err-name.field-0.0 c.in_err-name.ensures.read)

pub returns-in_err-birth : goal.returns-in_err-birth
returns-in_err-birth c =
    match_err c.from_residual-in_err-birth.result c.in_err-birth.field-0.0 _ _ c.from_residual-in_err-birth.ensures
    (clients_no_birth c.args.count c.loop-taken.taken c.loop-taken.low c.loop-taken.clients.entries (clients_from c.args.count 0 []) c.args.cursor.now c.loop-taken.cursor c.loop-taken-test.true c.loop-taken.invariant.follows c.read_new_name.new.cursor c.in_ok-name.name c.u64.new.self c.in_err-birth.field-0.0 c.in_ok-name.ensures.read c.in_err-birth.ensures)

pub loop-taken-preserved : goal.loop-taken-preserved
loop-taken-preserved c = record {
  follows = rw c.in_ok-put.ensures.ok (clients_more c.args.count c.loop-taken.taken c.loop-taken.low c.loop-taken.clients.entries (clients_from c.args.count 0 []) c.args.cursor.now c.loop-taken.cursor c.loop-taken-test.true c.loop-taken.invariant.follows c.read_new_name.new.cursor c.in_ok-name.name c.u64.new.self c.in_ok-birth.birth c.in_ok-name.ensures.read c.in_ok-birth.ensures);
  born = clients_born c.args.count c.loop-taken.taken c.loop-taken.low c.loop-taken.clients.entries (clients_from c.args.count 0 []) c.args.cursor.now c.loop-taken.cursor c.loop-taken-test.true c.loop-taken.invariant.follows c.read_new_name.new.cursor c.u64.new.self c.in_ok-birth.birth c.in_ok-birth.ensures;
}

pub returns : goal.returns
returns c = clients_last c.args.count c.loop-taken.taken c.loop-taken.low c.loop-taken.clients.entries (clients_from c.args.count 0 []) c.args.cursor.now c.loop-taken.cursor c.loop-taken-test.false c.loop-taken.invariant.follows
