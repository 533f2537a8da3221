use Rattle.pc_session.proofs.Kept.{last_is_kept}
use Rattle.pc_session.proofs.laws.last_is_kept.Goals as goal

pub returns : goal.returns
returns c = last_is_kept
