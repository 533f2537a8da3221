use Rattle.std.proofs.Common.{◌-◌, ◌∙◌, sym, arith}
use Rattle.pc_account_holdings.specs.State.{said}
use Rattle.pc_account.proofs.Waiting.{front-here, front-below}
use Rattle.pc_account.proofs.taking.longest_front.Goals as goal

pub returns-then-can_come-clause-count : goal.returns-then-can_come-clause-count
returns-then-can_come-clause-count c = sym (c.loop-count.invariant.same ∙ front-here (said c.args.holdings.now) c.args.room c.loop-count.count c.args.parcels.now c.loop-count-test.true (sym c.if-can_come.ensures))

pub loop-count-preserved : goal.loop-count-preserved
loop-count-preserved c =
    let bound = c.loop-count.invariant.bound in
    let some = c.loop-count-test.true in record {
      bound = omega (arith, bound);
      same = c.loop-count.invariant.same ∙ front-below (said c.args.holdings.now) c.args.room c.loop-count.count (c.loop-count.count - 1) c.args.parcels.now (omega (arith, some)) (sym c.if-can_come.ensures);
    }
