use Rattle.pc_account_history.proofs.Steps.{kept-own-uid}
use Rattle.pc_account_history.proofs.laws.kept_under_its_uid.Goals as goal

pub returns : goal.returns
returns c = kept-own-uid
