use Rattle.pc_mailbox.proofs.Holds.{rise-uids}
use Rattle.pc_mailbox.proofs.mailbox.Mailbox.touch_all.Goals as goal

pub touch_for-requires : goal.touch_for-requires
touch_for-requires c = rw (c.deref-2.ensures.value, c.in_ok-uids.ensures, c.deref.ensures.value) (rise-uids c.self.inside.highest c.self.inside.messages.items c.self.invariant.0.rising)
