use Rattle.pc_office_history.proofs.Waiting.{told-in-order}
use Rattle.pc_office_history.proofs.laws.mails_are_told_in_order.Goals as goal

pub returns : goal.returns
returns c = told-in-order
