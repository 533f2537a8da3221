use Rattle.pc_office_history.proofs.Waiting.{in-order}
use Rattle.pc_office_history.proofs.laws.waiting_is_in_order.Goals as goal

pub returns : goal.returns
returns c = in-order
