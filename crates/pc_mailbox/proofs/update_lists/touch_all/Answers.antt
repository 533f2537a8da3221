use Rattle.std.proofs.Common.{true≢false, sym}
use Rattle.pc_mailbox.proofs.Touches.{touched-none, touched-next, next-on}
use Rattle.pc_mailbox.proofs.update_lists.touch_all.Goals as goal

pub loop-uid-init : goal.loop-uid-init
loop-uid-init c = sym (touched-none c.args.at c.args.list.now)

pub loop-uid-preserved : goal.loop-uid-preserved
loop-uid-preserved c = rw (c.in_ok-touch.ensures.ok, c.loop-uid.invariant) (touched-next c.args.at c.args.uids.now c.args.list.now c.loop-uid.uid-index 0 c.requires c.loop-uid-test.true)

pub returns-in_err-touch-clause-spare : goal.returns-in_err-touch-clause-spare
returns-in_err-touch-clause-spare c = λ on. let next = next-on c.args.at c.args.uids.now c.args.list.now c.loop-uid.uid-index 0 c.requires c.loop-uid-test.true on in
    absurd (true≢false (sym (c.in_err-touch.ensures.spare (rw c.loop-uid.invariant next))))
