use Rattle.std.proofs.Common.{length, ◌-◌}
use Rattle.pc_mailbox.proofs.update_lists.+touch_from.Given as goal

abbrev pub decreases-touch_from : goal.decreases-touch_from
decreases-touch_from l = length l.lists.now - l.place
