-- Each computes.
use Rattle.std.proofs.Common.{refl}
use Rattle.pc_request.specs.Operation.{operations}
use Rattle.pc_session.specs.States.{needs_of}
use Rattle.pc_session.specs.Repository.{answer_alone}
use Rattle.pc_session.proofs.samples.answered_alone.Goals as goal

pub returns : goal.returns
unfolding answer_alone operations needs_of
returns c = (refl, refl, refl, refl, refl, refl, refl, refl, refl, refl, refl)
