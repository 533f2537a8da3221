use Rattle.pc_account_history.proofs.ListedAfter.{listed-stays}
use Rattle.pc_account_history.proofs.laws.listed_stays.Goals as goal

pub returns : goal.returns
returns c = listed-stays
