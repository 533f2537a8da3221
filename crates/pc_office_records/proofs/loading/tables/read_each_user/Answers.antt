use Rattle.std.proofs.Common.{◌+◌, ◌-◌, [], map}
use Rattle.pc_fields.proofs.Follows.{match_err}
use Rattle.pc_office_spelling.specs.RecordFormat.{items_from, user_format}
use Rattle.pc_office_holdings.specs.Held.{noted_of}
use Rattle.pc_office_records.proofs.ReadItems.{items_more, items_halt, items_last}
use Rattle.pc_office_records.proofs.ReadTables.{user-more, uncounted-more}
use Rattle.pc_office_records.proofs.loading.tables.read_each_user.Goals as goal

pub returns-in_err-name-clause-read : goal.returns-in_err-name-clause-read
returns-in_err-name-clause-read c =
    match_err c.from_residual.result c.in_err-name.field-0.0 _ _ c.from_residual.ensures
    (items_halt user_format c.args.count c.loop-taken._taken (map noted_of c.loop-taken.users) (items_from user_format c.args.count []) c.args.cursor.now c.loop-taken.cursor c.loop-taken-test.true c.loop-taken.invariant.follows c.read_user.new.cursor c.in_err-name.field-0.0 c.in_err-name.ensures.read)

pub loop-taken-preserved : goal.loop-taken-preserved
loop-taken-preserved c = record {
  follows = user-more (items_from user_format c.args.count []) (c.args.count - (c.loop-taken._taken + 1)) c.loop-taken.users c.put.new.self (c.in_ok-name.name, c.in_ok-name.standing) c.args.cursor.now c.read_user.new.cursor c.in_ok-put.ensures
      (items_more user_format c.args.count c.loop-taken._taken (map noted_of c.loop-taken.users) (items_from user_format c.args.count []) c.args.cursor.now c.loop-taken.cursor c.loop-taken-test.true c.loop-taken.invariant.follows c.read_user.new.cursor (noted_of (c.in_ok-name.name, c.in_ok-name.standing)) c.in_ok-name.ensures.read);
  uncounted = uncounted-more c.loop-taken.users c.put.new.self (c.in_ok-name.name, c.in_ok-name.standing) c.in_ok-put.ensures c.loop-taken.invariant.uncounted c.in_ok-name.ensures.uncounted;
}

pub returns-clause-read : goal.returns-clause-read
returns-clause-read c = items_last user_format c.args.count c.loop-taken._taken (map noted_of c.loop-taken.users) (items_from user_format c.args.count []) c.args.cursor.now c.loop-taken.cursor c.loop-taken-test.false c.loop-taken.invariant.follows
