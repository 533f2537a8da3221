use Rattle.pc_account_history.specs.History.{known}
use Rattle.pc_account_history.proofs.Steps.{kept-untouched}
use Rattle.pc_account_history.proofs.laws.untouched_stays.Goals as goal

pub returns : goal.returns
returns c = λ h e client mailbox uid untouched. kept-untouched (known h) e client mailbox uid untouched
