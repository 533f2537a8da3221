use Rattle.std.proofs.Common.{sym}
use Rattle.pc_cache_history.proofs.Agreement.{after-said_by}
use Rattle.pc_cache_history.proofs.FormedAfter.{IsCanonical-after}
use Rattle.pc_cache_history.proofs.laws.step_is_one_entry_more.Goals as goal

pub returns : goal.returns
returns c = λ r e canonical allowed. (IsCanonical-after r e allowed canonical, sym (after-said_by r e allowed))
