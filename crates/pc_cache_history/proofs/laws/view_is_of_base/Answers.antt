use Rattle.pc_cache_history.proofs.Views.{viewed}
use Rattle.pc_cache_history.proofs.laws.view_is_of_base.Goals as goal

pub returns : goal.returns
returns c = viewed
