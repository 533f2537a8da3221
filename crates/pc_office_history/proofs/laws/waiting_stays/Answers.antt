use Rattle.pc_office_history.proofs.Waiting.{waiting-stays}
use Rattle.pc_office_history.proofs.laws.waiting_stays.Goals as goal

pub returns : goal.returns
returns c = waiting-stays
