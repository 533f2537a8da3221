use Rattle.pc_account_spelling.proofs.ForgetSize.{forget_few}
use Rattle.pc_account_spelling.proofs.record_laws.forget_is_short.Goals as goal

pub returns : goal.returns
returns c = forget_few
