use Rattle.std.proofs.Common.{◌∙◌}
use Rattle.pc_mailbox.proofs.Admitted.{grown-touched}
use Rattle.pc_mailbox.proofs.update_lists.touch_whole.Goals as goal

pub returns-clause-ok : goal.returns-clause-ok
returns-clause-ok c = c.in_ok-touch_all.ensures.ok ∙ grown-touched c.args.at c.args.uids.now c.args.list.now c.admit.new.list c.admit.ensures.grown
