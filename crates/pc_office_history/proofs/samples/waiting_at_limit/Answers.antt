use Rattle.pc_office_history.proofs.AtLimit.{waiting-at-limit}
use Rattle.pc_office_history.proofs.samples.waiting_at_limit.Goals as goal

pub returns : goal.returns
returns c = waiting-at-limit
