use Rattle.std.proofs.Common.{Result, Ok, Err}
use Rattle.std.specs.Prelude.{OnOk}
use Rattle.std.proofs.lemmas.Result.{err_from_is_err_and}
use Rattle.pc_wire.proofs.WritingLemmas.{body_stops, body_ends, body_is}
use Rattle.pc_wire.proofs.writing.write_body.Goals as goal

on_ok : {T E P : Type 0} (result : Result T E) → P → OnOk result P
on_ok (Ok x) holds = holds
on_ok (Err e) holds = tt

pub returns-in_err-write_content-clause-content : goal.returns-in_err-write_content-clause-content
returns-in_err-write_content-clause-content g c =
    let p = err_from_is_err_and c.from_residual.result c.from_residual.ensures.1 in
    rw p.1 (body_stops _ _ _ c.args.lines.now c.as_slice-line-items.result.now c.loop-line.line-index c.line-item.result c.as_slice-line-items.ensures c.loop-line-test.true c.line-item.is c.loop-line.invariant.written c.in_err-write_content.ensures.content)

pub returns-clause-content : goal.returns-clause-content
returns-clause-content g c =
    body_ends _ _ _ c.write_line.result c.args.lines.now c.as_slice-line-items.result.now c.loop-line.line-index c.as_slice-line-items.ensures c.loop-line-test.false c.loop-line.invariant.written c.write_line.ensures.content

pub returns-clause-body : goal.returns-clause-body
returns-clause-body g c =
    on_ok c.write_line.result (body_is c.args.lines.now c.as_slice-line-items.result.now c.loop-line.line-index c.as_slice-line-items.ensures c.loop-line-test.false c.loop-line.invariant.without_feed)
