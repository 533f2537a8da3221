use Rattle.pc_account_history.specs.History.{start, ◌▸◌}
use Rattle.pc_account_history.proofs.Within.{IsCanonical-legal}
use Rattle.pc_account_spelling.proofs.FitsAfter.{step_fits}
use Rattle.pc_account_spelling.proofs.record_laws.step_fits.Goals as goal

pub returns : goal.returns
returns c = λ r number e canonical fit allowed passed entry-fit small.
    step_fits r number e canonical.well_formed fit allowed entry-fit (IsCanonical-legal (start r number ▸ e) (canonical, allowed, passed)) small
