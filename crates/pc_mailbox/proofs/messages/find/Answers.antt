use Rattle.pc_mailbox.proofs.Search.{found-none, found-here, found-other}
use Rattle.pc_mailbox.proofs.messages.find.Goals as goal

pub returns-in_err-kept : goal.returns-in_err-kept
returns-in_err-kept c = rw c.from_residual.ensures (found-none c.args.uid c.count_below-count.result c.args.messages.now c.requires c.count_below-count.ensures.back c.in_err-kept.ensures.value)

pub returns-then-kept-uid : goal.returns-then-kept-uid
returns-then-kept-uid c = found-here c.args.uid c.count_below-count.result c.args.messages.now c.requires c.count_below-count.ensures.back c.in_ok-kept.kept.now c.in_ok-kept.ensures.value c.if-kept-uid.true

pub returns-else-kept-uid : goal.returns-else-kept-uid
returns-else-kept-uid c = found-other c.args.uid c.count_below-count.result c.args.messages.now c.requires c.count_below-count.ensures.back c.in_ok-kept.kept.now c.in_ok-kept.ensures.value c.if-kept-uid.false
