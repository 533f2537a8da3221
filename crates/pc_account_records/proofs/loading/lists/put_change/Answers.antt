use Rattle.std.proofs.Common.{◌∙◌}
use Rattle.pc_mailbox.proofs.Admitted.{touched-new}
use Rattle.pc_account_records.proofs.ReadLists.{on-listed}
use Rattle.pc_account_records.proofs.loading.lists.put_change.Goals as goal

pub returns : goal.returns
returns c = rw (touched-new c.args.change.stamp c.args.change.uid c.args.list.now (on-listed c.args.change.uid c.args.list.now ∙ c.requires)) at c.touch.ensures.ok
