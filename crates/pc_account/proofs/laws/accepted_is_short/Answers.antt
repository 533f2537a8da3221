use Rattle.pc_account_records.proofs.Following.{accepted_is_short}
use Rattle.pc_account.proofs.laws.accepted_is_short.Goals as goal

pub returns : goal.returns
returns c = accepted_is_short
