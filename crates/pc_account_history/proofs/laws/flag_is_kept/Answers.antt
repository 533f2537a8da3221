use Rattle.pc_account_history.proofs.Living.{flag-kept}
use Rattle.pc_account_history.proofs.laws.flag_is_kept.Goals as goal

pub returns : goal.returns
returns c = flag-kept
