-- What a read of a disk gives, and how much it takes.
use Rattle.std.specs.Prelude.{◌≡◌, ℕ, ◌+◌, ◌^◌, ◌<◌, ◌≤◌, min, List, length, take, Result, IfOk}

-- a read gives as many of these bytes as fit, in front of the buffer
abbrev pub GivesBytes : {E : Type 0} → Result ℕ E → List ℕ → List ℕ → Type 0
GivesBytes result bytes buffer = IfOk result (λ count. (count ≡ min (length bytes) (length buffer)) × (take count buffer ≡ take count bytes))

-- what was taken rises by at least the bytes that a read gives and at most the length of its
-- buffer, and stays a number of 64 bits
pub record Takes {E : Type 0} (before now : ℕ) (result : Result ℕ E) (room : ℕ) : Type 0 where
  pub at_least : IfOk result (λ count. before + count ≤ now)
  pub later : before ≤ now
  pub at_most : now ≤ before + room
  pub small : IfOk result (λ _. now < 2 ^ 64)
