use Rattle.pc_cache_history.proofs.Lists.{changes-counted}
use Rattle.pc_cache_history.proofs.laws.changes_are_counted.Goals as goal

pub returns : goal.returns
returns c = changes-counted
