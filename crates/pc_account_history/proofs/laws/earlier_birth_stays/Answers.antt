use Rattle.pc_account_history.proofs.Births.{earlier-birth}
use Rattle.pc_account_history.proofs.laws.earlier_birth_stays.Goals as goal

pub returns : goal.returns
returns c = earlier-birth
