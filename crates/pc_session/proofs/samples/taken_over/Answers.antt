-- Each computes.
use Rattle.std.proofs.Common.{refl}
use Rattle.pc_session.specs.States.{needs_of}
use Rattle.pc_session.proofs.samples.taken_over.Goals as goal

pub returns : goal.returns
unfolding needs_of
returns c = (refl, refl, refl, refl, refl)
