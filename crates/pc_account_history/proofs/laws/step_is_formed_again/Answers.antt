use Rattle.std.proofs.Common.{sym}
use Rattle.pc_account_history.proofs.FormedAfter.{IsWellFormed-after}
use Rattle.pc_account_history.proofs.Agreement.{after-said_by}
use Rattle.pc_account_history.proofs.laws.step_is_formed_again.Goals as goal

pub returns : goal.returns
returns c = λ r number e formed allowed. (IsWellFormed-after r number e formed allowed, sym (after-said_by r number e formed allowed))
