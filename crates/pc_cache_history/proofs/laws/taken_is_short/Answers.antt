use Rattle.pc_cache_history.proofs.Mailboxes.{taken-short}
use Rattle.pc_cache_history.proofs.laws.taken_is_short.Goals as goal

pub returns : goal.returns
returns c = taken-short
