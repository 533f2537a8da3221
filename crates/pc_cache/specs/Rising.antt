-- Lists that rise.
use Rattle.std.specs.Prelude.{ℕ, Bool, true, ◌&&◌, List, [], ◌∷◌, slice_index_or}
use Rattle.std.specs.Cmp.Lexicographic.{slice_cmp}
use Rattle.std.specs.Ordering.{nat_cmp, is_lt}

-- a name is below another, byte by byte
abbrev pub is_before : List ℕ → List ℕ → Bool
is_before name other = is_lt (slice_cmp nat_cmp name other)

-- the name at a place, or any where there is none
abbrev pub name_at : List (List ℕ) → List ℕ → ℕ → List ℕ
name_at names any place = slice_index_or names place any

-- the name at a place is below that at another
abbrev pub is_before_at : List (List ℕ) → List ℕ → ℕ → ℕ → Bool
is_before_at names any place other = is_before (name_at names any place) (name_at names any other)

-- each item is above the one before it by the test, and the first above this one
abbrev pub rise_above : {X : Type 0} → (X → X → Bool) → X → List X → Bool
rise_above below last [] = true
rise_above below last (x ∷ xs) = below last x && rise_above below x xs

-- each item is above the one before it
abbrev pub rise : {X : Type 0} → (X → X → Bool) → List X → Bool
rise below [] = true
rise below (x ∷ xs) = rise_above below x xs
