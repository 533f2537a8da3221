use Rattle.pc_account_history.proofs.Living.{descriptors-by-uid}
use Rattle.pc_account_history.proofs.laws.descriptors_are_by_uid.Goals as goal

pub returns : goal.returns
returns c = descriptors-by-uid
