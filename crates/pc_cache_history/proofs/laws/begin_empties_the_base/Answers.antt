use Rattle.pc_cache_history.proofs.Mailboxes.{begun}
use Rattle.pc_cache_history.proofs.laws.begin_empties_the_base.Goals as goal

pub returns : goal.returns
returns c = begun
