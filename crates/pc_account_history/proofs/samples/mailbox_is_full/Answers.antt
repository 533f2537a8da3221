use Rattle.pc_account_history.proofs.FullMailboxes.{mailbox-is-full}
use Rattle.pc_account_history.proofs.samples.mailbox_is_full.Goals as goal

pub returns : goal.returns
returns c = mailbox-is-full
