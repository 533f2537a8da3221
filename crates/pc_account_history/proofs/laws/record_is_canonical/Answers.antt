use Rattle.pc_account_history.proofs.Within.{IsCanonical-legal}
use Rattle.pc_account_history.proofs.laws.record_is_canonical.Goals as goal

pub returns : goal.returns
returns c = IsCanonical-legal
