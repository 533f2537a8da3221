use Rattle.pc_session.proofs.InPlace.{stand_in_answers}
use Rattle.pc_session.proofs.laws.stand_in_answers.Goals as goal

pub returns : goal.returns
returns c = stand_in_answers
