use Rattle.std.proofs.Common.{sym}
use Rattle.pc_account_history.specs.History.{start, ◌▸◌}
use Rattle.pc_account_history.proofs.Agreement.{after-said_by}
use Rattle.pc_account_history.proofs.Within.{IsCanonical-legal}
use Rattle.pc_account_history.proofs.laws.step_is_one_entry_more.Goals as goal

pub returns : goal.returns
returns c = λ r number e canonical allowed passed.
    (IsCanonical-legal (start r number ▸ e) (canonical, allowed, passed), sym (after-said_by r number e canonical.well_formed allowed))
