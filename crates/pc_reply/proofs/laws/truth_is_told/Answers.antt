use Rattle.pc_reply.proofs.ExactLemmas.{one_is_told, true_is_told}
use Rattle.pc_reply.proofs.laws.truth_is_told.Goals as goal

pub returns-clause-one : goal.returns-clause-one
returns-clause-one c = one_is_told

pub returns-clause-told : goal.returns-clause-told
returns-clause-told c = true_is_told
