use Rattle.pc_account_history.proofs.Steps.{same-stamp-same-message}
use Rattle.pc_account_history.proofs.laws.same_stamp_same_message.Goals as goal

pub returns : goal.returns
returns c = same-stamp-same-message
