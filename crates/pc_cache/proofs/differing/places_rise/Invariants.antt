use Rattle.std.proofs.Common.{◌≡◌, drop}
use Rattle.pc_cache.specs.Rising.{is_before_at, rise_above}
use Rattle.pc_cache.proofs.differing.places_rise.Given as goal

-- the names at the places rise exactly where those at the rest do from the last one on
abbrev pub invariant-loop-place : goal.invariant-loop-place
invariant-loop-place l = rise_above (is_before_at l.names l.any) l.last (drop l.place-index l.others) ≡ rise_above (is_before_at l.names l.any) l.initial.last l.others
