use Rattle.pc_session.proofs.Served.{answer-served}
use Rattle.pc_session.proofs.laws.never_fails.Goals as goal

pub returns : goal.returns
returns c = answer-served
