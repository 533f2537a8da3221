-- The first place at which bytes are no list of fields of some form.
use Rattle.std.specs.Prelude.{◌≡◌, ℕ, List, [], ◌∷◌, ◌++◌, length}
use Rattle.std.specs.List.{concat}

-- fields with which some whole list of fields begins
abbrev pub GoesOn : (List (List ℕ) → Type 0) → List (List ℕ) → Type 0
GoesOn IsWhole fields = (rest : List (List ℕ)) × IsWhole (fields ++ rest)

-- the bytes aren't those of a whole list of fields, and this is the place of the first field at which none goes on
pub record IsFirstFault (IsWhole : List (List ℕ) → Type 0) (bytes : List ℕ) (place : ℕ) : Type 0 where
  pub fields : List (List ℕ)
  pub left : List ℕ
  pub read : bytes ≡ concat fields ++ left
  pub after : place ≡ length (concat fields)
  pub goes_on : GoesOn IsWhole fields
  pub unfinished : left ≡ [] → IsWhole fields → ⊥
  pub stuck : (field rest : List ℕ) → left ≡ field ++ rest → GoesOn IsWhole (fields ++ field ∷ []) → ⊥
