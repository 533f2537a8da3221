use Rattle.pc_reply.specs.declared.first_line.FirstLine.TheVariants.{Gone}
use Rattle.pc_reply.proofs.FirstLines.{some_first}
use Rattle.pc_reply.proofs.first_line.FirstLine.read.Goals as goal

pub returns-in-Some-clause-every : goal.returns-in-Some-clause-every
returns-in-Some-clause-every c = λ first is.
    some_first (Gone c.in-Some.uid) first c.args.line.now c.in-Some.ensures.some is
