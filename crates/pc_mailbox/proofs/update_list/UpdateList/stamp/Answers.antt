use Rattle.std.proofs.Common.{rules}
use Rattle.pc_mailbox.proofs.Stamps.{stamp_at-changes_of}
use Rattle.pc_mailbox.proofs.update_list.UpdateList.stamp.Goals as goal

pub returns : goal.returns
returns c = rw (← c.self.view_is, stamp_at-changes_of c.args.uid c.self.inside.stamps.entries) (search rules)
