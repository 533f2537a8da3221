use Rattle.std.proofs.Common.{refl, arith}
use Rattle.pc_office_spelling.specs.EntryFormat.{name_format}
use Rattle.pc_fields.proofs.Formats.{nothing_more, after_field, no_field}
use Rattle.pc_fields.proofs.ReadLoops.{repeated_first, repeated_more, repeated_halt, repeated_last}
use Rattle.pc_office_spelling.proofs.entry_reading.read_each.Goals as goal

pub loop-taken-init : goal.loop-taken-init
loop-taken-init c = rw c.new-names.ensures (repeated_first name_format c.args.count c.args.cursor.now)

pub loop-taken-preserved : goal.loop-taken-preserved
loop-taken-preserved c =
    rw c.in_ok-push.ensures.ok (repeated_more name_format c.args.count c.loop-taken._taken c.args.cursor.now c.loop-taken.cursor c.name.new.self c.loop-taken.names c.in_ok-name.name c.loop-taken-test.true c.loop-taken.invariant (after_field c.in_ok-name.ensures nothing_more))

pub returns-in_err-name : goal.returns-in_err-name
returns-in_err-name c =
    repeated_halt name_format c.args.count c.loop-taken._taken c.args.cursor.now c.loop-taken.cursor c.name.new.self c.loop-taken.names c.in_err-name.field-0.0 c.from_residual.result c.loop-taken-test.true c.loop-taken.invariant (no_field c.in_err-name.ensures (refl, refl)) c.from_residual.ensures

pub returns : goal.returns
returns c = repeated_last name_format c.args.count c.loop-taken._taken c.args.cursor.now c.loop-taken.cursor c.loop-taken.names (omega arith) c.loop-taken.invariant
