-- Lists that are changed at one place after the other.
use Rattle.std.specs.Prelude.{ℕ, zero, suc, List, [], ◌∷◌}

-- the list with the first so many items changed
abbrev pub front_mapped : {X : Type 0} → (X → X) → ℕ → List X → List X
front_mapped change zero items = items
front_mapped change (suc count) [] = []
front_mapped change (suc count) (item ∷ items) = change item ∷ front_mapped change count items
