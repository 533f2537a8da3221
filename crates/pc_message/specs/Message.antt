-- Messages: lists of lines.
use Rattle.std.specs.Prelude.{◌≡◌, ℕ, ◌+◌, ◌≤◌, IsTrue, List, [], ◌∷◌, length}
use Rattle.std.specs.List.{list_all}
use Rattle.pc_base.specs.Line.{is_line}

-- the bytes of a message as it is sent: each line with the two that end it
abbrev pub size_of : List (List ℕ) → ℕ
size_of [] = 0
size_of (line ∷ lines) = length line + 2 + size_of lines

-- what a kept message counts for
abbrev pub weight_of : List (List ℕ) → ℕ
weight_of lines = size_of lines + 256

-- lines whose size is this number, which a message may have
pub record IsSized (lines : List (List ℕ)) (size : ℕ) : Type 0 where
  pub exact : size ≡ size_of lines
  pub bound : size ≤ 65536
  pub fitting : IsTrue (list_all is_line lines)
