use Rattle.pc_cache_history.proofs.Mailboxes.{cached}
use Rattle.pc_cache_history.proofs.laws.mailboxes_are_cached.Goals as goal

pub returns : goal.returns
returns c = cached
