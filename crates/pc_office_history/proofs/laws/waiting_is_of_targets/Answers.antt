use Rattle.pc_office_history.proofs.Names.{waiting-of-targets}
use Rattle.pc_office_history.proofs.laws.waiting_is_of_targets.Goals as goal

pub returns : goal.returns
returns c = waiting-of-targets
