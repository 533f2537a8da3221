-- The number is what the digits so far stand for.
use Rattle.std.proofs.Common.{◌≡◌, ◌<◌, ◌^◌, take}
use Rattle.pc_base.specs.Number.{decimal_value}
use Rattle.pc_base.proofs.numbers.value_of.Given as goal

abbrev pub invariant-loop-digit : goal.invariant-loop-digit
invariant-loop-digit l = (l.number ≡ decimal_value (take l.digit-index l.digits)) × (l.number < 2 ^ 64)
