use Rattle.pc_account_history.proofs.ListedAfter.{living-listed}
use Rattle.pc_account_history.proofs.laws.living_is_listed.Goals as goal

pub returns : goal.returns
returns c = living-listed
