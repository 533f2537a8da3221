use Rattle.pc_account_history.specs.History.{known, next}
use Rattle.pc_account_history.proofs.Steps.{client-stays}
use Rattle.pc_account_history.proofs.laws.client_stays.Goals as goal

pub returns : goal.returns
returns c = λ h e client old. client-stays e (next h) (known h).clients client old
