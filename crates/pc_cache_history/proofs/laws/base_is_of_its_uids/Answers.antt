use Rattle.pc_cache_history.proofs.Mailboxes.{of-its-uids}
use Rattle.pc_cache_history.proofs.laws.base_is_of_its_uids.Goals as goal

pub returns : goal.returns
returns c = of-its-uids
