use Rattle.pc_office_history.proofs.Bounds.{bounded}
use Rattle.pc_office_history.proofs.laws.record_is_bounded.Goals as goal

pub returns : goal.returns
returns c = bounded
