-- Each computes.
use Rattle.std.proofs.Common.{refl}
use Rattle.pc_session.proofs.samples.logged_in.Goals as goal

pub returns : goal.returns
returns c = (refl, refl, refl)
