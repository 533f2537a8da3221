use Rattle.pc_account_history.proofs.ListedAfter.{earlier-stamp}
use Rattle.pc_account_history.proofs.laws.earlier_stamp_stays.Goals as goal

pub returns : goal.returns
returns c = earlier-stamp
