use Rattle.std.proofs.Common.{◌+◌, ◌<◌, ◌≤◌, sym, ◌∙◌, arith}
use Rattle.pc_office_spelling.proofs.Spaces.{greatest-most}
use Rattle.pc_office_records.specs.ReadKept.{may_in}
use Rattle.pc_office_records.proofs.Sizes.{found-first, found-above, found-below}
use Rattle.pc_office_records.proofs.loading.kept.most_size.Goals as goal

pub returns-then-may_wait-clause-greatest : goal.returns-then-may_wait-clause-greatest
returns-then-may_wait-clause-greatest c = found-first c.args.rows.now c.args.accepted c.args.count (sym c.may_wait.ensures ∙ c.if-may_wait.true)

pub loop-low-init : goal.loop-low-init
loop-low-init c = record {
  above = omega arith;
  below = greatest-most (may_in c.args.rows.now c.args.accepted c.args.count) 65536;
  most = omega arith;
}

pub loop-low-preserved-then-may_wait-2 : goal.loop-low-preserved-then-may_wait-2
loop-low-preserved-then-may_wait-2 c =
    let middle = c.loop-low.low + c.div_ceil.result in
    let below = c.loop-low.invariant.below in
    let most = c.loop-low.invariant.most in
    let upto : middle ≤ 65536 = omega (arith, most, c.loop-low-test.true, c.div_ceil.ensures) in
    record {
      above = found-above c.args.rows.now c.args.accepted c.args.count middle upto (sym c.may_wait-in-loop-low.ensures ∙ c.if-may_wait-2.true);
      below = below;
      most = most;
    }

pub loop-low-preserved : goal.loop-low-preserved
loop-low-preserved c =
    let middle = c.loop-low.low + c.div_ceil.result in
    let above = c.loop-low.invariant.above in
    let most = c.loop-low.invariant.most in
    let positive : 0 < middle = omega (arith, c.loop-low-test.true, c.div_ceil.ensures) in
    let upto : middle ≤ 65536 = omega (arith, most, c.loop-low-test.true, c.div_ceil.ensures) in
    record {
      above = above;
      below = found-below c.args.rows.now c.args.accepted c.args.count middle positive (sym c.may_wait-in-loop-low.ensures ∙ c.if-may_wait-2.false);
      most = omega (arith, upto);
    }
