-- Names, and tables of what stands under names.
use Rattle.std.specs.Prelude.{ℕ, zero, suc, ◌+◌, ◌==◌, Bool, not, List, [], ◌∷◌}
use Rattle.std.specs.List.{filter, list_any}
use Rattle.std.specs.Cmp.Lexicographic.{pointwise}

-- two names are the same bytes
abbrev pub same : List ℕ → List ℕ → Bool
same name other = pointwise ◌==◌ name other

-- a name is among these
abbrev pub is_among : List ℕ → List (List ℕ) → Bool
is_among name names = list_any (same name) names

-- the names but for this one
abbrev pub other_names : List ℕ → List (List ℕ) → List (List ℕ)
other_names name names = filter (λ other. not (same name other)) names

-- what stands under the other names
abbrev pub others : {X : Type 0} → List ℕ → List (List ℕ × X) → List (List ℕ × X)
others name table = filter (λ entry. not (same name entry.0)) table

-- the same names, each with what the function makes of its value
abbrev pub map_values : {X Y : Type 0} → (X → Y) → List (List ℕ × X) → List (List ℕ × Y)
map_values f [] = []
map_values f (entry ∷ table) = (entry.0, f entry.1) ∷ map_values f table

-- a number is among these
abbrev pub has_number : ℕ → List ℕ → Bool
has_number number all = list_any (λ other. other == number) all

-- as many numbers, from the one after `low` on
abbrev pub numbers : ℕ → ℕ → List ℕ
numbers low zero = []
numbers low (suc count) = suc low ∷ numbers (suc low) count

-- the sum of what the function makes of each item
abbrev pub total : {X : Type 0} → (X → ℕ) → List X → ℕ
total f [] = 0
total f (x ∷ xs) = f x + total f xs
