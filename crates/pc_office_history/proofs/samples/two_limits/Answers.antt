use Rattle.pc_office_history.proofs.AtLimit.{two-limits}
use Rattle.pc_office_history.proofs.samples.two_limits.Goals as goal

pub returns : goal.returns
returns c = two-limits
