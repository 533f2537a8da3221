use Rattle.pc_account_history.proofs.ListedAfter.{unlisted-unchanged}
use Rattle.pc_account_history.proofs.laws.unlisted_is_unchanged.Goals as goal

pub returns : goal.returns
returns c = unlisted-unchanged
