use Rattle.pc_session.proofs.InPlace.{since_is_kept}
use Rattle.pc_session.proofs.laws.since_is_kept.Goals as goal

pub returns : goal.returns
returns c = since_is_kept
