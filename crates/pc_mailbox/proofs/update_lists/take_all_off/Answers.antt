use Rattle.std.proofs.Common.{sym}
use Rattle.pc_mailbox.proofs.Touches.{without-none, without-next}
use Rattle.pc_mailbox.proofs.update_lists.take_all_off.Goals as goal

pub loop-uid-init : goal.loop-uid-init
loop-uid-init c = sym (without-none c.args.list.now)

pub loop-uid-preserved : goal.loop-uid-preserved
loop-uid-preserved c = rw (c.take_off.ensures, c.loop-uid.invariant) (without-next c.args.uids.now c.args.list.now c.loop-uid.uid-index 0 c.loop-uid-test.true)
