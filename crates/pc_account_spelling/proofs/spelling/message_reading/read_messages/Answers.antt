use Rattle.std.proofs.Common.{[], arith}
use Rattle.pc_account_spelling.specs.RecordFormat.{messages_from}
use Rattle.pc_fields.proofs.Follows.{match_err}
use Rattle.pc_account_spelling.proofs.MessageReads.{messages_more, messages_halt, messages_last}
use Rattle.pc_account_spelling.proofs.spelling.message_reading.read_messages.Goals as goal

pub returns-in_err-kept : goal.returns-in_err-kept
returns-in_err-kept c =
    let whole = messages_from c.args.highest c.args.count 0 c.args.weight [] in
    match_err c.from_residual.result c.in_err-kept.field-0.0 _ _ c.from_residual.ensures
    (messages_halt c.args.highest c.args.count c.loop-taken.taken c.loop-taken.low c.loop-taken.room c.loop-taken.messages.items whole c.args.cursor.now c.loop-taken.cursor c.loop-taken-test.true c.loop-taken.invariant.follows c.read_kept.new.cursor c.in_err-kept.field-0.0 c.in_err-kept.ensures.read)

pub loop-taken-preserved : goal.loop-taken-preserved
loop-taken-preserved c =
    let whole = messages_from c.args.highest c.args.count 0 c.args.weight [] in
    let before = c.loop-taken.invariant in
    let lt = c.loop-taken-test.true in
    let uid = c.in_ok-kept.ensures.uid in
    let size = c.in_ok-kept.ensures.size in
    let weight = c.weight-room.ensures.weight in
    record {
      follows = rw (c.in_ok-put_behind.ensures, weight) (messages_more c.args.highest c.args.count c.loop-taken.taken c.loop-taken.low c.loop-taken.room c.loop-taken.messages.items whole c.args.cursor.now c.loop-taken.cursor lt before.follows c.read_kept.new.cursor c.in_ok-kept.kept c.in_ok-kept.ensures.read);
      given = omega (arith, before.given, uid.1, lt);
      enough = omega (arith, before.enough, before.given, size, weight, lt);
    }

pub returns : goal.returns
returns c =
    messages_last c.args.highest c.args.count c.loop-taken.taken c.loop-taken.low c.loop-taken.room c.loop-taken.messages.items (messages_from c.args.highest c.args.count 0 c.args.weight []) c.args.cursor.now c.loop-taken.cursor c.loop-taken-test.false c.loop-taken.invariant.follows
