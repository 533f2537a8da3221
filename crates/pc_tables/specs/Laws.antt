-- What holds of names that are the same.
use Rattle.std.specs.Prelude.{◌≡◌, ℕ, true, List}
use Rattle.pc_tables.specs.Table.{same}

-- a name is the same as itself
abbrev pub SameIsReflexive : Type 0
SameIsReflexive = (name : List ℕ) → same name name ≡ true

-- it doesn't matter which of two names is asked about the other
abbrev pub SameIsSymmetric : Type 0
SameIsSymmetric = (name other : List ℕ) → same name other ≡ same other name

-- names that are the same are equal
abbrev pub SameIsEqual : Type 0
SameIsEqual = (name other : List ℕ) → same name other ≡ true → name ≡ other
