use Rattle.pc_cache_history.proofs.Mailboxes.{resetting-empty}
use Rattle.pc_cache_history.proofs.laws.resetting_is_empty.Goals as goal

pub returns : goal.returns
returns c = resetting-empty
