use Rattle.std.proofs.Common.{refl}
use Rattle.pc_mailbox.proofs.Holds.{rise-uids}
use Rattle.pc_mailbox.proofs.mailbox.Mailbox.add_client.Goals as goal

pub list_with-requires : goal.list_with-requires
list_with-requires c = rw (c.deref-2.ensures.value, c.in_ok-uids.ensures, c.deref.ensures.value) (rise-uids c.self.inside.highest c.self.inside.messages.items c.self.invariant.0.rising)

pub returns-clause-mailbox : goal.returns-clause-mailbox
returns-clause-mailbox c = rw (← c.self.view_is, c.in_ok-push.ensures.items, c.remove.ensures.others, c.reserve.ensures.items, c.in_ok-list.ensures, c.deref-2.ensures.value, c.in_ok-uids.ensures, c.deref.ensures.value) refl
