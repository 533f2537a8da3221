use Rattle.pc_mailbox.proofs.Holds.{rise-uids}
use Rattle.pc_mailbox.proofs.mailbox.Mailbox.drop_all.Goals as goal

pub touch_for_all-requires : goal.touch_for_all-requires
touch_for_all-requires c = rw (c.deref-2.ensures.value, c.in_ok-uids.ensures, c.deref.ensures.value) (rise-uids c.self.inside.highest c.self.inside.messages.items c.self.invariant.0.rising)
