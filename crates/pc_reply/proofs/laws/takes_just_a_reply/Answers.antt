use Rattle.pc_reply.proofs.ExactLemmas.{takes_just, nothing_taken}
use Rattle.pc_reply.proofs.laws.takes_just_a_reply.Goals as goal

pub returns-clause-within : goal.returns-clause-within
returns-clause-within c = takes_just

pub returns-clause-waits : goal.returns-clause-waits
returns-clause-waits c = nothing_taken
