use Rattle.std.proofs.Common.{◌≡◌, map, take}
use Rattle.arrayvec.specs.ArrayVec.{array_vec_len}
use Rattle.pc_cache.specs.Rising.{name_at}
use Rattle.pc_cache.proofs.differing.stand_apart_in_order.Given as goal

-- the places of the names so far
abbrev pub invariant-loop-place : goal.invariant-loop-place
invariant-loop-place l = (map (name_at l.names l.any) l.places.items ≡ take l.place l.names) × (array_vec_len l.places ≡ l.place)
