use Rattle.std.proofs.Common.{◌+◌, refl, arith, lit<, ◌∙◌, ap}
use Rattle.std.proofs.lemmas.List.{take_all}
use Rattle.pc_base.specs.Number.{decimal_value}
use Rattle.pc_base.proofs.Decimal.{decimal_value-more, decimal_value-take-le}
use Rattle.pc_base.proofs.numbers.value_of.Goals as goal

pub loop-digit-init : goal.loop-digit-init
unfolding decimal_value
loop-digit-init c = (refl, lit< tt)

pub loop-digit-preserved : goal.loop-digit-preserved
loop-digit-preserved c =
    let more = decimal_value-more c.args.digits.now c.loop-digit.digit-index c.loop-digit-test.true in
    (omega (arith, c.in-Some.ensures.1, more, c.loop-digit.invariant.0), omega (arith, c.in-Some.ensures.0, c.in-Some.ensures.1))

pub returns-in_default : goal.returns-in_default
returns-in_default c = λ fits.
    let more = decimal_value-more c.args.digits.now c.loop-digit.digit-index c.loop-digit-test.true in
    let most = decimal_value-take-le c.args.digits.now (c.loop-digit.digit-index + 1) in
    c.in_default.ensures (omega (arith, more, most, c.loop-digit.invariant.0, fits))

pub returns : goal.returns
returns c =
    let all = take_all c.loop-digit.digit-index c.args.digits.now c.loop-digit-test.false in
    let same = c.loop-digit.invariant.0 ∙ ap decimal_value all in
    (omega (arith, same, c.loop-digit.invariant.1), same)
