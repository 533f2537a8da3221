use Rattle.std.proofs.Common.{◌≡◌, ℕ, List, ◌||◌, drop}
use Rattle.pc_tables.specs.Table.{is_among}
use Rattle.pc_cache.proofs.name_set.NameSet.of.Given as goal

-- the names in the set, and those still to come
abbrev pub invariant-loop-name : goal.invariant-loop-name
invariant-loop-name l = (name : List ℕ) → (is_among name l.set.keys || is_among name (drop l.name-index l.names)) ≡ is_among name l.names
