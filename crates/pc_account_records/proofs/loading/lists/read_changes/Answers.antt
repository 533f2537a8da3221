use Rattle.std.proofs.Common.{◌+◌, ◌-◌, [], ◌∷◌, arith, length-append}
use Rattle.pc_account_spelling.specs.RecordFormat.{changes_from}
use Rattle.pc_fields.proofs.Follows.{match_err}
use Rattle.pc_account_records.proofs.ReadLists.{changes_last, changes_more, changes_no_uid, changes_no_stamp, room_push}
use Rattle.pc_account_records.proofs.loading.lists.read_changes.Goals as goal

pub returns-in_err-uid-clause-read : goal.returns-in_err-uid-clause-read
returns-in_err-uid-clause-read c =
    match_err c.from_residual-in_err-uid.result c.in_err-uid.field-0.0 _ _ c.from_residual-in_err-uid.ensures
    (changes_no_uid c.args.highest c.args.count c.loop-taken.taken c.loop-taken.last c.loop-taken.list (changes_from c.args.highest c.args.count c.args.birth 0 []) c.args.cursor.now c.loop-taken.cursor c.loop-taken-test.true c.loop-taken.invariant.follows c.read_uid.new.cursor c.in_err-uid.field-0.0 c.in_err-uid.ensures.read)

pub returns-in_err-stamp-clause-read : goal.returns-in_err-stamp-clause-read
returns-in_err-stamp-clause-read c =
    match_err c.from_residual-in_err-stamp.result c.in_err-stamp.field-0.0 _ _ c.from_residual-in_err-stamp.ensures
    (changes_no_stamp c.args.highest c.args.count c.loop-taken.taken c.loop-taken.last c.loop-taken.list (changes_from c.args.highest c.args.count c.args.birth 0 []) c.args.cursor.now c.loop-taken.cursor c.loop-taken-test.true c.loop-taken.invariant.follows c.read_uid.new.cursor c.in_ok-uid.uid c.read_stamp.new.cursor c.in_err-stamp.field-0.0 c.in_ok-uid.ensures.read c.in_err-stamp.ensures.read)

pub loop-taken-preserved : goal.loop-taken-preserved
loop-taken-preserved c = record {
  follows = rw c.in_ok-put_change.ensures (changes_more c.args.highest c.args.count c.loop-taken.taken c.loop-taken.last c.loop-taken.list (changes_from c.args.highest c.args.count c.args.birth 0 []) c.args.cursor.now c.loop-taken.cursor c.loop-taken-test.true c.loop-taken.invariant.follows c.read_uid.new.cursor c.in_ok-uid.uid c.read_stamp.new.cursor c.in_ok-stamp.stamp c.in_ok-uid.ensures.read c.in_ok-stamp.ensures.read);
  room = rw c.in_ok-put_change.ensures (room_push c.args.highest (c.args.count - (c.loop-taken.taken + 1)) c.loop-taken.list c.read_stamp.new.tally c.add.new.self (record { uid = c.in_ok-uid.uid; stamp = c.in_ok-stamp.stamp }) c.in_ok-stamp.ensures.room c.in_ok-uid.ensures.new.1 c.add.ensures.uid c.add.ensures.above);
  counted = rw c.in_ok-put_change.ensures (omega (arith, length-append c.loop-taken.list (record { uid = c.in_ok-uid.uid; stamp = c.in_ok-stamp.stamp } ∷ []), c.loop-taken.invariant.counted));
}

pub returns-clause-read : goal.returns-clause-read
returns-clause-read c = changes_last c.args.highest c.args.count c.loop-taken.taken c.loop-taken.last c.loop-taken.list (changes_from c.args.highest c.args.count c.args.birth 0 []) c.args.cursor.now c.loop-taken.cursor c.loop-taken-test.false c.loop-taken.invariant.follows
