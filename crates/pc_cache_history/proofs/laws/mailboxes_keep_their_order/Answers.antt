use Rattle.pc_cache_history.proofs.Order.{keep-order}
use Rattle.pc_cache_history.proofs.laws.mailboxes_keep_their_order.Goals as goal

pub returns : goal.returns
returns c = keep-order
