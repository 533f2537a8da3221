use Rattle.pc_cache_history.proofs.Views.{without-items}
use Rattle.pc_cache_history.proofs.laws.view_without_items.Goals as goal

pub returns : goal.returns
returns c = without-items
