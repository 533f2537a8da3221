use Rattle.pc_account_history.proofs.FullLists.{changes-at-limit}
use Rattle.pc_account_history.proofs.samples.changes_at_limit.Goals as goal

pub returns : goal.returns
returns c = changes-at-limit
