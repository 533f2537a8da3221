use Rattle.pc_cache_history.proofs.Rest.{left}
use Rattle.pc_cache_history.proofs.laws.entries_leave_the_rest.Goals as goal

pub returns : goal.returns
returns c = left
