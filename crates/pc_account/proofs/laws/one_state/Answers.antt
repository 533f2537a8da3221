use Rattle.pc_account_records.specs.Recorded.{one_state}
use Rattle.pc_account.proofs.laws.one_state.Goals as goal

pub returns : goal.returns
returns c = one_state
