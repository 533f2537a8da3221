use Rattle.pc_mailbox.proofs.Search.{flag-set, flag-none}
use Rattle.pc_mailbox.proofs.messages.set_flag.Goals as goal

pub returns-then-place-messages : goal.returns-then-place-messages
returns-then-place-messages c = rw c.set_flag_of.ensures (flag-set c.args.uid c.args.flag c.args.on c.args.messages.now c.count_below-place.result c.count_below-place.ensures.front c.index-messages-place.result c.requires.rise c.count_below-place.ensures.back c.if-place-messages.true)

pub returns-else-place-messages : goal.returns-else-place-messages
returns-else-place-messages c = flag-none c.args.uid c.args.flag c.args.on c.args.messages.now c.count_below-place.result c.count_below-place.ensures.front c.if-place-messages.false
