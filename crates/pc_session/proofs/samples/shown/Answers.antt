-- Each computes.
use Rattle.std.proofs.Common.{refl}
use Rattle.pc_session.specs.Repository.{answer_of, answer_in_box}
use Rattle.pc_session.proofs.samples.shown.Goals as goal

pub returns : goal.returns
unfolding answer_of answer_in_box
returns c = (refl, refl, refl)
