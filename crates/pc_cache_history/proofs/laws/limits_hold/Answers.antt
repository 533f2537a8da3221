use Rattle.pc_cache_history.proofs.Mailboxes.{limits-hold}
use Rattle.pc_cache_history.proofs.laws.limits_hold.Goals as goal

pub returns : goal.returns
returns c = limits-hold
