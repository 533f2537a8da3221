-- Bodies: lines of content as they are sent, ended by a line that is a single dot.
use Rattle.std.specs.Prelude.{◌≡◌, ℕ, ◌+◌, ◌<◌, Bool, false, ◌==◌, List, [], ◌∷◌, ◌++◌, ◌⊎◌, length, if◌then◌else◌}
use Rattle.std.specs.List.{AllZip, flat_map}
use Rattle.pc_wire.specs.Lines.{AreSpellings}

-- the line that ends a body: a dot, byte 46, alone
abbrev pub dot : List ℕ
dot = 46 ∷ []

-- a dot comes first
abbrev pub is_dotted : List ℕ → Bool
is_dotted [] = false
is_dotted (byte ∷ bytes) = byte == 46

-- a sent line carries a line of content: that line, which begins with no dot, or a dot and then that line, which isn't empty
abbrev pub Carries : List ℕ → List ℕ → Type 0
Carries sent line = ((sent ≡ line) × (is_dotted line ≡ false)) ⊎ ((sent ≡ 46 ∷ line) × (0 < length line))

-- the bytes are a body of these lines: spellings of sent lines that carry them, in order, and one of the dot
abbrev pub IsBody : List (List ℕ) → List ℕ → Type 0
IsBody lines bytes = (sent : List (List ℕ)) × (AllZip Carries sent lines × AreSpellings bytes (sent ++ dot ∷ []))

-- the line as it is sent: behind one more dot where it begins with one
abbrev pub sent_as : List ℕ → List ℕ
sent_as line = if is_dotted line then 46 ∷ line else line

-- a written line: the bytes, CR and LF
abbrev pub written_line : List ℕ → List ℕ
written_line bytes = bytes ++ 13 ∷ 10 ∷ []

-- a written line of a body
abbrev pub written_content : List ℕ → List ℕ
written_content line = written_line (sent_as line)

-- a written body
abbrev pub written_body : List (List ℕ) → List ℕ
written_body lines = flat_map written_content lines ++ written_line dot

-- what lines count for: the bytes of each, and two for its end
abbrev pub size_of : List (List ℕ) → ℕ
size_of [] = 0
size_of (line ∷ lines) = length line + 2 + size_of lines
