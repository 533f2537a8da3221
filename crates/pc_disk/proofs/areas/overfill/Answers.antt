use Rattle.std.proofs.Common.{arith}
use Rattle.std.proofs.lemmas.Grind.{common_steps}
use Rattle.std.proofs.lemmas.List.{replicate-append-replicate, length-replicate}
use Rattle.pc_disk.proofs.areas.overfill.Goals as goal

pub returns-clause-items : goal.returns-clause-items
returns-clause-items c =
    let same = c.fill.ensures.after (λ y is. is) in
    grind (arith, common_steps, replicate-append-replicate, length-replicate, same)
