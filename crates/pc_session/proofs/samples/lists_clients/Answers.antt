-- Each computes.
use Rattle.std.proofs.Common.{refl}
use Rattle.pc_session.specs.Repository.{answer_of}
use Rattle.pc_session.proofs.samples.lists_clients.Goals as goal

pub returns : goal.returns
unfolding answer_of
returns c = refl
