use Rattle.pc_cache_history.proofs.Mailboxes.{replaced}
use Rattle.pc_cache_history.proofs.laws.took_replaces_the_named.Goals as goal

pub returns : goal.returns
returns c = replaced
