use Rattle.pc_account_history.proofs.Steps.{unlisted-taken}
use Rattle.pc_account_history.proofs.laws.unlisted_was_taken.Goals as goal

pub returns : goal.returns
returns c = unlisted-taken
