use Rattle.std.proofs.Common.{sym}
use Rattle.pc_mailbox.proofs.Stamps.{without-changes_of, IsList-removed}
use Rattle.pc_mailbox.proofs.update_list.UpdateList.take_off.Goals as goal

pub invariant_of-self : goal.invariant_of-self
invariant_of-self c = rw c.pop.ensures.entries (IsList-removed c.args.uid c.self.inside.stamps c.self.invariant)

pub returns : goal.returns
returns c = rw (c.pop.ensures.entries, ← c.self.view_is) (sym (without-changes_of c.args.uid c.self.inside.stamps.entries c.len-no_uid_twice.ensures.valid.0))
