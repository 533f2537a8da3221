use Rattle.pc_account_records.proofs.Following.{step_is_legal}
use Rattle.pc_account.proofs.laws.step_is_legal.Goals as goal

pub returns : goal.returns
returns c = step_is_legal
