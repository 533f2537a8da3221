use Rattle.std.proofs.Common.{arith, ◌∙◌}
use Rattle.std.proofs.lemmas.List.{take_rest}
use Rattle.pc_base.proofs.Writes.{IsPartWritten-more, AppendsFront-kept}
use Rattle.pc_base.proofs.sink.write_all.Goals as goal

pub loop-rest-preserved : goal.loop-rest-preserved
loop-rest-preserved g c =
    let more = IsPartWritten-more _ _ _ _ _ _ c.loop-rest.invariant.0 c.in-Ok.ensures.content in
    rw take_rest (more, omega (arith, c.loop-rest.invariant.1, c.in-Ok.ensures.cause.later), c.in-Ok.ensures.beside ∙ c.loop-rest.invariant.2)

pub returns-in_default-clause-content : goal.returns-in_default-clause-content
returns-in_default-clause-content g c =
    AppendsFront-kept _ _ _ _ _ c.loop-rest.invariant.0 c.in_default.ensures.content
