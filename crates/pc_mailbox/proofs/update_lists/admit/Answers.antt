use Rattle.std.proofs.Common.{true≢false, is_some, sym, ap, ◌∙◌}
use Rattle.pc_mailbox.specs.UpdateList.{is_on}
use Rattle.pc_mailbox.proofs.Touches.{list_all-at}
use Rattle.pc_mailbox.proofs.Admitted.{grown-touch, grown-on, number-at, on-touch}
use Rattle.pc_mailbox.proofs.update_lists.admit.Goals as goal

pub loop-uid-preserved : goal.loop-uid-preserved
loop-uid-preserved c =
    let off = ap is_some (sym c.stamp.ensures) ∙ (sym c.is_some.ensures ∙ c.if-is_some.false) in
    rw c.in_ok-touch.ensures.ok (record {
      grown = grown-touch c.args.at _ c.args.uids.now c.args.list.now c.loop-uid.list c.loop-uid.invariant.grown (number-at c.args.uids.now c.loop-uid.uid-index 0 c.loop-uid-test.true) off;
      on = on-touch c.args.at c.args.uids.now c.loop-uid.list c.loop-uid.uid-index 0 c.loop-uid-test.true c.loop-uid.invariant.on off;
    })

pub returns-in_err-touch-clause-spare : goal.returns-in_err-touch-clause-spare
returns-in_err-touch-clause-spare c = λ on.
    let off = ap is_some (sym c.stamp.ensures) ∙ (sym c.is_some.ensures ∙ c.if-is_some.false) in
    let there = grown-on c.args.uids.now c.args.list.now c.loop-uid.list _ c.loop-uid.invariant.grown (list_all-at (is_on c.args.list.now) c.args.uids.now c.loop-uid.uid-index 0 on c.loop-uid-test.true) in
    absurd (true≢false (sym there ∙ off))
