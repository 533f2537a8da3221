use Rattle.pc_session.proofs.Kept.{other_pass_stays}
use Rattle.pc_session.proofs.laws.other_pass_stays.Goals as goal

pub returns : goal.returns
returns c = other_pass_stays
