use Rattle.pc_cache_history.proofs.Queue.{queue-unanswered}
use Rattle.pc_cache_history.proofs.laws.queue_is_unanswered.Goals as goal

pub returns : goal.returns
returns c = queue-unanswered
