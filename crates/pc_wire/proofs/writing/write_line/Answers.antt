use Rattle.std.proofs.lemmas.Result.{err_from_is_err_and}
use Rattle.pc_wire.proofs.WritingLemmas.{AppendsFront-longer, WritesAll-after}
use Rattle.pc_wire.proofs.writing.write_line.Goals as goal

pub returns-in_err-write_all-clause-content : goal.returns-in_err-write_all-clause-content
returns-in_err-write_all-clause-content g c =
    let p = err_from_is_err_and c.from_residual.result c.from_residual.ensures.1 in
    rw p.1 (AppendsFront-longer _ _ _ _ c.in_err-write_all.ensures.content)

pub returns-clause-content : goal.returns-clause-content
returns-clause-content g c =
    WritesAll-after _ _ _ c.write_all-2.result _ _ c.in_ok-write_all.ensures.content c.write_all-2.ensures.content
