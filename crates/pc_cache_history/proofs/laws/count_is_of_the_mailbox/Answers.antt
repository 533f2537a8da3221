use Rattle.pc_cache_history.proofs.Order.{count-of-mailbox}
use Rattle.pc_cache_history.proofs.laws.count_is_of_the_mailbox.Goals as goal

pub returns : goal.returns
returns c = count-of-mailbox
