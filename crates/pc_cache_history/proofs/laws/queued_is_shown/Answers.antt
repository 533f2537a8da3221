use Rattle.pc_cache_history.proofs.Views.{set-in}
use Rattle.pc_cache_history.proofs.laws.queued_is_shown.Goals as goal

pub returns : goal.returns
returns c = set-in
