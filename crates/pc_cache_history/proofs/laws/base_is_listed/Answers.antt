use Rattle.pc_cache_history.proofs.Mailboxes.{listed}
use Rattle.pc_cache_history.proofs.laws.base_is_listed.Goals as goal

pub returns : goal.returns
returns c = listed
