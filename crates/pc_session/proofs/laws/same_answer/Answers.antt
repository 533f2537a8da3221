use Rattle.pc_session.proofs.Looked.{answer-same}
use Rattle.pc_session.proofs.laws.same_answer.Goals as goal

pub returns : goal.returns
returns c = answer-same
