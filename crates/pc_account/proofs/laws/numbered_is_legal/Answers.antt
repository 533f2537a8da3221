use Rattle.pc_account_records.specs.Recorded.{numbered_is_legal}
use Rattle.pc_account.proofs.laws.numbered_is_legal.Goals as goal

pub returns : goal.returns
returns c = numbered_is_legal
