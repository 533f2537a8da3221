use Rattle.std.proofs.Common.{ℕ, List, subst}
use Rattle.std.proofs.lemmas.Result.{err_from_is_err_and}
use Rattle.pc_base.specs.Stream.{AppendsFront, WritesAll}
use Rattle.pc_wire.proofs.WritingLemmas.{written_content-parts, AppendsFront-longer, WritesAll-after}
use Rattle.pc_wire.proofs.writing.write_content.Goals as goal

pub returns-in_err-write_all-clause-content : goal.returns-in_err-write_all-clause-content
returns-in_err-write_all-clause-content g c =
    let p = err_from_is_err_and c.from_residual.result c.from_residual.ensures.1 in
    let parts = written_content-parts c.added_dot.result.now c.bytes-bytes.result.now c.args.line.now c.bytes-bytes.ensures.value c.added_dot.ensures in
    rw p.1 (subst (λ (bytes : List ℕ). AppendsFront (g.K.Sink.written c.args.sink.now) (g.K.Sink.written c.write_all.new.sink) bytes) parts (AppendsFront-longer _ _ _ _ c.in_err-write_all.ensures.content))

pub returns-clause-content : goal.returns-clause-content
returns-clause-content g c =
    let parts = written_content-parts c.added_dot.result.now c.bytes-bytes.result.now c.args.line.now c.bytes-bytes.ensures.value c.added_dot.ensures in
    subst (λ (bytes : List ℕ). WritesAll (g.K.Sink.written c.args.sink.now) (g.K.Sink.written c.write_line.new.sink) c.write_line.result bytes) parts (WritesAll-after _ _ _ c.write_line.result _ _ c.in_ok-write_all.ensures.content c.write_line.ensures.content)
