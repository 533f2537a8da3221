use Rattle.pc_office_history.proofs.Waiting.{waiting-is-past}
use Rattle.pc_office_history.proofs.laws.waiting_is_past_noted.Goals as goal

pub returns : goal.returns
returns c = waiting-is-past
