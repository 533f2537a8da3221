use Rattle.pc_account_history.proofs.Counts.{messages-said_by, weight-said_by, listed_count-said_by}
use Rattle.pc_account_history.proofs.laws.record_is_counted.Goals as goal

pub returns : goal.returns
returns c = λ r number formed. record {
  messages = messages-said_by r number formed;
  weight = weight-said_by r number formed;
  changes = listed_count-said_by r number formed;
}
