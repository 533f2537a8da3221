use Rattle.std.proofs.Common.{◌≡◌, nat_lt, drop}
use Rattle.pc_cache.specs.Rising.{rise_above}
use Rattle.pc_cache.proofs.differing.numbers_rise.Given as goal

-- the numbers rise exactly where the rest do from the last one on
abbrev pub invariant-loop-number : goal.invariant-loop-number
invariant-loop-number l = rise_above nat_lt l.last (drop l.number-index l.others) ≡ rise_above nat_lt l.initial.last l.others
