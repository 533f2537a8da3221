use Rattle.pc_account_history.proofs.Births.{birth-before}
use Rattle.pc_account_history.proofs.laws.birth_is_before.Goals as goal

pub returns : goal.returns
returns c = birth-before
