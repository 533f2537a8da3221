use Rattle.pc_account_history.proofs.FullMailboxes.{account-is-full}
use Rattle.pc_account_history.proofs.samples.account_is_full.Goals as goal

pub returns : goal.returns
returns c = account-is-full
