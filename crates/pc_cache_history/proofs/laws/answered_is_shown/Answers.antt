use Rattle.pc_cache_history.proofs.Views.{answered-in}
use Rattle.pc_cache_history.proofs.laws.answered_is_shown.Goals as goal

pub returns : goal.returns
returns c = answered-in
