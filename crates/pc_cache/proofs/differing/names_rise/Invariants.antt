use Rattle.std.proofs.Common.{◌≡◌, drop}
use Rattle.pc_cache.specs.Rising.{is_before, rise_above}
use Rattle.pc_cache.proofs.differing.names_rise.Given as goal

-- the names rise exactly where the rest do from the last one on
abbrev pub invariant-loop-name : goal.invariant-loop-name
invariant-loop-name l = rise_above is_before l.last (drop l.name-index l.others) ≡ rise_above is_before l.initial.last l.others
