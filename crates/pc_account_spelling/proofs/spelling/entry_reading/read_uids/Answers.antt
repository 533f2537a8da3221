use Rattle.std.proofs.Common.{refl, arith}
use Rattle.pc_account_spelling.specs.EntryFormat.{uid_format}
use Rattle.pc_fields.proofs.Formats.{nothing_more, after_field, no_field}
use Rattle.pc_fields.proofs.ReadLoops.{repeated_first, repeated_more, repeated_halt, repeated_last}
use Rattle.pc_account_spelling.proofs.spelling.entry_reading.read_uids.Goals as goal

pub loop-taken-init : goal.loop-taken-init
loop-taken-init c = rw c.new-uids.ensures (repeated_first uid_format c.args.count c.args.cursor.now)

pub loop-taken-preserved : goal.loop-taken-preserved
loop-taken-preserved c =
    rw c.in_ok-push.ensures.ok (repeated_more uid_format c.args.count c.loop-taken._taken c.args.cursor.now c.loop-taken.cursor c.u32.new.self c.loop-taken.uids c.in_ok-uid.uid c.loop-taken-test.true c.loop-taken.invariant (after_field c.in_ok-uid.ensures nothing_more))

pub returns-in_err-uid : goal.returns-in_err-uid
returns-in_err-uid c =
    repeated_halt uid_format c.args.count c.loop-taken._taken c.args.cursor.now c.loop-taken.cursor c.u32.new.self c.loop-taken.uids c.in_err-uid.field-0.0 c.from_residual.result c.loop-taken-test.true c.loop-taken.invariant (no_field c.in_err-uid.ensures (refl, refl)) c.from_residual.ensures

pub returns : goal.returns
returns c = repeated_last uid_format c.args.count c.loop-taken._taken c.args.cursor.now c.loop-taken.cursor c.loop-taken.uids (omega arith) c.loop-taken.invariant
