use Rattle.std.proofs.Common.{[]}
use Rattle.pc_account_spelling.specs.RecordFormat.{subscriptions_from}
use Rattle.pc_fields.proofs.Follows.{match_err}
use Rattle.pc_account_records.proofs.ReadTables.{boards_no_name, boards_no_mark, boards_more, boards_last}
use Rattle.pc_account_records.proofs.loading.read_each_subscription.Goals as goal

pub returns-in_err-board : goal.returns-in_err-board
returns-in_err-board c =
    match_err c.from_residual.result c.in_err-board.field-0.0 _ _ c.from_residual.ensures
    (boards_no_name c.args.count c.loop-taken._taken c.loop-taken.subscriptions.entries (subscriptions_from c.args.count []) c.args.cursor.now c.loop-taken.cursor c.loop-taken-test.true c.loop-taken.invariant c.read_new_name.new.cursor c.in_err-board.field-0.0 c.in_err-board.ensures.read)

pub returns-in_err-mark : goal.returns-in_err-mark
returns-in_err-mark c =
    match_err c.from_residual-in_err-mark.result c.in_err-mark.field-0.0 _ _ c.from_residual-in_err-mark.ensures
    (boards_no_mark c.args.count c.loop-taken._taken c.loop-taken.subscriptions.entries (subscriptions_from c.args.count []) c.args.cursor.now c.loop-taken.cursor c.loop-taken-test.true c.loop-taken.invariant c.read_new_name.new.cursor c.in_ok-board.board c.u32.new.self c.in_err-mark.field-0.0 c.in_ok-board.ensures.read c.in_err-mark.ensures)

pub loop-taken-preserved : goal.loop-taken-preserved
loop-taken-preserved c = rw c.in_ok-put.ensures.ok (boards_more c.args.count c.loop-taken._taken c.loop-taken.subscriptions.entries (subscriptions_from c.args.count []) c.args.cursor.now c.loop-taken.cursor c.loop-taken-test.true c.loop-taken.invariant c.read_new_name.new.cursor c.in_ok-board.board c.u32.new.self c.in_ok-mark.mark c.in_ok-board.ensures.read c.in_ok-mark.ensures)

pub returns : goal.returns
returns c = boards_last c.args.count c.loop-taken._taken c.loop-taken.subscriptions.entries (subscriptions_from c.args.count []) c.args.cursor.now c.loop-taken.cursor c.loop-taken-test.false c.loop-taken.invariant
