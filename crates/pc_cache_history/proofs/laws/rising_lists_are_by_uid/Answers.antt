use Rattle.pc_cache_history.proofs.Lists.{same-lists}
use Rattle.pc_cache_history.proofs.laws.rising_lists_are_by_uid.Goals as goal

pub returns : goal.returns
returns c = same-lists
