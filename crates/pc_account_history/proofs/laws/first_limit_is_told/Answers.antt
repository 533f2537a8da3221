use Rattle.pc_account_history.specs.History.{known}
use Rattle.pc_account_history.proofs.LimitPassed.{first-told}
use Rattle.pc_account_history.proofs.Numbers.{KnowsNames-legal}
use Rattle.pc_account_history.proofs.Within.{IsWithin-legal}
use Rattle.pc_account_history.proofs.laws.first_limit_is_told.Goals as goal

pub returns : goal.returns
returns c = λ h legal e allowed. first-told (known h) (KnowsNames-legal h legal) e allowed (IsWithin-legal h legal)
