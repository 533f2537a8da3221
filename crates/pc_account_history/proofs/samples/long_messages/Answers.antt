use Rattle.pc_account_history.proofs.FullMailboxes.{long-messages}
use Rattle.pc_account_history.proofs.samples.long_messages.Goals as goal

pub returns : goal.returns
returns c = long-messages
