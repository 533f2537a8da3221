use Rattle.pc_office_history.proofs.Names.{weight-added}
use Rattle.pc_office_history.proofs.laws.weight_is_added.Goals as goal

pub returns : goal.returns
returns c = weight-added
