-- What is in order, and names that are distinct.
use Rattle.std.specs.Prelude.{◌≡◌, ℕ, true, false, List, [], ◌∷◌, ⊤, Bool, ◌&&◌, nat_lt}
use Rattle.std.specs.List.{AllByRecursion}
use Rattle.pc_tables.specs.Table.{same}

-- the relation holds of each item and each later one
abbrev pub Ordered : {X : Type 0} → (X → X → Type 0) → List X → Type 0
Ordered R [] = ⊤
Ordered R (x ∷ xs) = AllByRecursion (R x) xs × Ordered R xs

-- no name comes twice
abbrev pub AreDistinct : List (List ℕ) → Type 0
AreDistinct names = Ordered (λ name later. same name later ≡ false) names

-- each number is past the one before it
abbrev pub rises_from : ℕ → List ℕ → Bool
rises_from low [] = true
rises_from low (uid ∷ uids) = nat_lt low uid && rises_from uid uids
