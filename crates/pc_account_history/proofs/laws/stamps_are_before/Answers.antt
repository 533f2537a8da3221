use Rattle.pc_account_history.proofs.Lists.{stamps-before}
use Rattle.pc_account_history.proofs.laws.stamps_are_before.Goals as goal

pub returns : goal.returns
returns c = stamps-before
