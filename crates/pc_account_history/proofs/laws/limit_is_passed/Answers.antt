use Rattle.pc_account_history.specs.Known.{after_entry}
use Rattle.pc_account_history.specs.History.{known}
use Rattle.pc_account_history.specs.Limits.{is_passed, limits_of}
use Rattle.pc_tables.proofs.Lists.{found-passes}
use Rattle.pc_account_history.proofs.laws.limit_is_passed.Goals as goal

pub returns : goal.returns
returns c = λ h e limit told. found-passes (is_passed (after_entry (known h) e)) (limits_of e) limit told
