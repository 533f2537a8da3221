use Rattle.pc_account_history.proofs.FullMailboxes.{messages-at-limit}
use Rattle.pc_account_history.proofs.samples.messages_at_limit.Goals as goal

pub returns : goal.returns
returns c = messages-at-limit
