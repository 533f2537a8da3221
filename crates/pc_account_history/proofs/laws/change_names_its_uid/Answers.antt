use Rattle.pc_account_history.proofs.Living.{change-names-its-uid}
use Rattle.pc_account_history.proofs.laws.change_names_its_uid.Goals as goal

pub returns : goal.returns
returns c = change-names-its-uid
