use Rattle.pc_session.proofs.Kept.{stays_kept}
use Rattle.pc_session.proofs.laws.stays_kept.Goals as goal

pub returns : goal.returns
returns c = stays_kept
