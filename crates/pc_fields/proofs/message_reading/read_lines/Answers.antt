use Rattle.std.proofs.Common.{◌≤◌, length, arith}
use Rattle.std.proofs.lemmas.Bool.{leb-true}
use Rattle.pc_fields.proofs.ReadLoops.{lines_first, lines_more, lines_halt, lines_last, size-push}
use Rattle.pc_fields.proofs.message_reading.read_lines.Goals as goal

pub loop-taken-init : goal.loop-taken-init
loop-taken-init c = record {
  continues = rw c.new-lines.ensures (lines_first c.args.count c.args.most c.args.cursor.now);
  size = rw c.new-lines.ensures (omega arith);
}

pub loop-taken-preserved : goal.loop-taken-preserved
loop-taken-preserved c =
    let line = c.in_ok-line.line in
    let taken = c.in_ok-line.ensures.told in
    let short : length line ≤ c.loop-taken.room = leb-true _ _ taken.passed in
    let size = size-push c.loop-taken.lines line in
    let before = c.loop-taken.invariant.size in
    rw (c.in_ok-push.ensures.ok, c.bytes.ensures.value) (record {
      continues = lines_more c.args.count c.loop-taken._taken c.args.most c.loop-taken.room c.args.cursor.now c.loop-taken.cursor c.line.new.self c.loop-taken.lines line c.loop-taken-test.true c.loop-taken.invariant.continues c.in_ok-line.ensures;
      size = omega arith;
    })

pub returns-in_err-line-clause-read : goal.returns-in_err-line-clause-read
returns-in_err-line-clause-read c =
    lines_halt c.args.count c.loop-taken._taken c.args.most c.loop-taken.room c.args.cursor.now c.loop-taken.cursor c.line.new.self c.loop-taken.lines c.in_err-line.field-0.0 c.from_residual.result c.loop-taken-test.true c.loop-taken.invariant.continues c.in_err-line.ensures c.from_residual.ensures

pub returns-clause-read : goal.returns-clause-read
returns-clause-read c = lines_last c.args.count c.loop-taken._taken c.args.most c.loop-taken.room c.args.cursor.now c.loop-taken.cursor c.loop-taken.lines (omega arith) c.loop-taken.invariant.continues

pub returns-clause-size : goal.returns-clause-size
returns-clause-size c = omega (arith, c.loop-taken.invariant.size)
