use Rattle.std.proofs.Common.{rules}
use Rattle.pc_world.specs.declared.event.Asked.TheVariants.{Faulty, Read}
use Rattle.pc_world.proofs.repository.answer_read.Goals as goal

pub returns-in-Ok-clause-asked : goal.returns-in-Ok-clause-asked
returns-in-Ok-clause-asked g c =
    (Read c.in-Ok.request, ((c.requires, rw c.in-Ok.is at c.read-read.ensures.request), c.answer_request.ensures.prints, c.answer_request.ensures.entry))

pub returns-in-Err-clause-asked : goal.returns-in-Err-clause-asked
returns-in-Err-clause-asked g c =
    (Faulty c.in-Err.fault, ((c.requires, rw c.in-Err.is at c.read-read.ensures.fault), search rules, search rules))
