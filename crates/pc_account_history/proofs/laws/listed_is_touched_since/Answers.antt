use Rattle.pc_account_history.proofs.Steps.{listed-since}
use Rattle.pc_account_history.proofs.laws.listed_is_touched_since.Goals as goal

pub returns : goal.returns
returns c = listed-since
