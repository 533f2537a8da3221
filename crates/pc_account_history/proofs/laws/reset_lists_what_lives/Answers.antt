use Rattle.pc_account_history.proofs.ListedAfter.{reset-lists}
use Rattle.pc_account_history.proofs.laws.reset_lists_what_lives.Goals as goal

pub returns : goal.returns
returns c = reset-lists
