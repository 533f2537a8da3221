use Rattle.pc_account_history.proofs.Lists.{listed-stamp_at}
use Rattle.pc_account_history.proofs.laws.listed_is_on_the_list.Goals as goal

pub returns : goal.returns
returns c = listed-stamp_at
