use Rattle.std.proofs.Common.{arith}
use Rattle.pc_account_spelling.specs.EntryFormat.{letter_format}
use Rattle.pc_fields.proofs.ReadLoops.{repeated_first, repeated_more, repeated_halt, repeated_last}
use Rattle.pc_account_spelling.proofs.spelling.entry_reading.read_letters.Goals as goal

pub loop-taken-init : goal.loop-taken-init
loop-taken-init c = rw c.new-letters.ensures (repeated_first letter_format c.args.count c.args.cursor.now)

pub loop-taken-preserved : goal.loop-taken-preserved
loop-taken-preserved c =
    rw c.in_ok-push.ensures.ok (repeated_more letter_format c.args.count c.loop-taken._taken c.args.cursor.now c.loop-taken.cursor c.read_letter.new.cursor c.loop-taken.letters (c.in_ok-mailbox.mailbox, c.in_ok-mailbox.message) c.loop-taken-test.true c.loop-taken.invariant c.in_ok-mailbox.ensures)

pub returns-in_err-mailbox : goal.returns-in_err-mailbox
returns-in_err-mailbox c =
    repeated_halt letter_format c.args.count c.loop-taken._taken c.args.cursor.now c.loop-taken.cursor c.read_letter.new.cursor c.loop-taken.letters c.in_err-mailbox.field-0.0 c.from_residual.result c.loop-taken-test.true c.loop-taken.invariant c.in_err-mailbox.ensures c.from_residual.ensures

pub returns : goal.returns
returns c = repeated_last letter_format c.args.count c.loop-taken._taken c.args.cursor.now c.loop-taken.cursor c.loop-taken.letters (omega arith) c.loop-taken.invariant
