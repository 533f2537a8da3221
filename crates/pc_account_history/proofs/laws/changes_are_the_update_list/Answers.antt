use Rattle.pc_account_history.proofs.Lists.{list-for}
use Rattle.pc_account_history.proofs.laws.changes_are_the_update_list.Goals as goal

pub returns : goal.returns
returns c = list-for
