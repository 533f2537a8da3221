use Rattle.pc_account_history.proofs.Within.{IsWithin-legal}
use Rattle.pc_account_history.proofs.laws.limits_hold.Goals as goal

pub returns : goal.returns
returns c = IsWithin-legal
