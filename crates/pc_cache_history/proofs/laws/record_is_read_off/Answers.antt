use Rattle.pc_cache_history.proofs.Mailboxes.{read-off}
use Rattle.pc_cache_history.proofs.laws.record_is_read_off.Goals as goal

pub returns : goal.returns
returns c = read-off
