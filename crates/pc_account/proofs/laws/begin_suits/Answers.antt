use Rattle.pc_account_records.specs.Recorded.{begin_is_canonical, begin_suits}
use Rattle.pc_account.proofs.laws.begin_suits.Goals as goal

pub returns : goal.returns
returns c = (begin_is_canonical, begin_suits)
