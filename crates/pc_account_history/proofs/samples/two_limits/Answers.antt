use Rattle.pc_account_history.proofs.FullLists.{two-limits}
use Rattle.pc_account_history.proofs.samples.two_limits.Goals as goal

pub returns : goal.returns
returns c = two-limits
