use Rattle.pc_office_history.proofs.AtLimit.{three-limits}
use Rattle.pc_office_history.proofs.samples.three_limits.Goals as goal

pub returns : goal.returns
returns c = three-limits
