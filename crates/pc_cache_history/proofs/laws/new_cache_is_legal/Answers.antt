use Rattle.pc_cache_history.proofs.Mailboxes.{new-cache}
use Rattle.pc_cache_history.proofs.laws.new_cache_is_legal.Goals as goal

pub returns : goal.returns
returns c = new-cache
