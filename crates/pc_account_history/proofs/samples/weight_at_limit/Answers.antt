use Rattle.pc_account_history.proofs.FullMailboxes.{weight-at-limit}
use Rattle.pc_account_history.proofs.samples.weight_at_limit.Goals as goal

pub returns : goal.returns
returns c = weight-at-limit
