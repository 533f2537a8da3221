use Rattle.pc_account_history.proofs.Births.{next-positive}
use Rattle.pc_account_history.proofs.laws.next_is_positive.Goals as goal

pub returns : goal.returns
returns c = next-positive
