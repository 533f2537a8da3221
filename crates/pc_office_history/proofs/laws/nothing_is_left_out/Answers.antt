use Rattle.pc_office_history.proofs.Waiting.{nothing-left-out}
use Rattle.pc_office_history.proofs.laws.nothing_is_left_out.Goals as goal

pub returns : goal.returns
returns c = nothing-left-out
