use Rattle.pc_account_history.proofs.Steps.{one-flag}
use Rattle.pc_account_history.proofs.laws.one_flag_is_set.Goals as goal

pub returns : goal.returns
returns c = one-flag
