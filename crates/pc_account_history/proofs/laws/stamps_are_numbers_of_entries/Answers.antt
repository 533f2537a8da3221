use Rattle.pc_account_history.proofs.Lists.{list-is}
use Rattle.pc_account_history.proofs.laws.stamps_are_numbers_of_entries.Goals as goal

pub returns : goal.returns
returns c = list-is
