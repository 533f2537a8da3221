-- The lines of a text. An LF, byte 10, ends a line; a CR, byte 13, directly before it is no part of the line.
use Rattle.std.specs.Prelude.{◌≡◌, ℕ, Bool, false, ◌==◌, ◌&&◌, List, [], ◌∷◌, ◌++◌, ◌⊎◌, if◌then◌else◌}
use Rattle.std.specs.List.{onto_first}
pub use Rattle.pc_base.specs.Line.{has_feed}

-- an LF
abbrev pub is_feed : ℕ → Bool
is_feed byte = byte == 10

-- an LF comes first
abbrev pub is_at_feed : List ℕ → Bool
is_at_feed [] = false
is_at_feed (byte ∷ bytes) = is_feed byte

-- the lines of a text with one more byte in front, given whether the text begins with an LF, and its lines
abbrev pub with_byte : ℕ → Bool → List (List ℕ) → List (List ℕ)
with_byte byte at_feed lines =
    if is_feed byte then [] ∷ lines else (if byte == 13 && at_feed then lines else onto_first byte lines)

-- the lines of a text: one up to each LF, and one of what follows the last LF, if anything does
abbrev pub lines_of : List ℕ → List (List ℕ)
lines_of [] = []
lines_of (byte ∷ bytes) = with_byte byte (is_at_feed bytes) (lines_of bytes)

-- the bytes before the first LF, or all where there is none
abbrev pub before_feed : List ℕ → List ℕ
before_feed [] = []
before_feed (byte ∷ bytes) = if is_feed byte then [] else byte ∷ before_feed bytes

-- the bytes without the one CR at their end, if there is one
abbrev pub without_return : List ℕ → List ℕ
without_return [] = []
without_return (byte ∷ []) = if byte == 13 then [] else byte ∷ []
without_return (byte ∷ next ∷ bytes) = byte ∷ without_return (next ∷ bytes)

-- how the bytes spell a line: it and CR LF, or it and LF where it doesn't end in CR
abbrev pub IsSpelling : List ℕ → List ℕ → Type 0
IsSpelling bytes line =
    (has_feed line ≡ false) × ((bytes ≡ line ++ 13 ∷ 10 ∷ []) ⊎ ((bytes ≡ line ++ 10 ∷ []) × (without_return line ≡ line)))

-- the bytes are spellings of these lines, one after another
abbrev pub AreSpellings : List ℕ → List (List ℕ) → Type 0
AreSpellings bytes [] = bytes ≡ []
AreSpellings bytes (line ∷ lines) =
    (spelling : List ℕ) × ((others : List ℕ) × ((bytes ≡ spelling ++ others) × IsSpelling spelling line × AreSpellings others lines))
