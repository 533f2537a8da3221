-- The header of a message: its fields and their texts.
use Rattle.std.specs.Prelude.{◌≡◌, ℕ, ◌-◌, ◌==◌, Bool, false, true, ◌||◌, List, [], ◌∷◌, ◌++◌, length, take, drop, if◌then◌else◌}
use Rattle.std.specs.List.{concat, take_while, prefix_len, suffix_len, before_first, after_first}
use Rattle.std.specs.Str.{str_eq_ignore_ascii_case}

-- a space or a tab
abbrev pub is_blank : ℕ → Bool
is_blank byte = byte == 32 || byte == 9

-- the bytes without the blanks in front
abbrev pub trimmed_front : List ℕ → List ℕ
trimmed_front bytes = drop (prefix_len is_blank bytes) bytes

-- the bytes without the blanks at their end
abbrev pub trimmed_back : List ℕ → List ℕ
trimmed_back bytes = take (length bytes - suffix_len is_blank bytes) bytes

-- the bytes without the blanks at both ends
abbrev pub trimmed : List ℕ → List ℕ
trimmed bytes = trimmed_back (trimmed_front bytes)

-- the lines before the first empty one, or all
abbrev pub header_of : List (List ℕ) → List (List ℕ)
header_of lines = before_first (λ line. length line == 0) lines

-- the line begins with a blank: it belongs to the field above it
abbrev pub is_folded : List ℕ → Bool
is_folded [] = false
is_folded (byte ∷ _) = is_blank byte

-- the line begins with this name, colon included, whatever the case of its letters
abbrev pub has_name : List ℕ → List ℕ → Bool
has_name name line = str_eq_ignore_ascii_case (take (length name) line) name

-- what follows the colon of a field's line, with the folded lines appended, without the blanks at both ends
unfoldable pub field_text : List ℕ → List (List ℕ) → List ℕ
field_text line folded = trimmed (after_first (λ byte. byte == 58) line ++ concat folded)

-- the texts of the fields whose line passes the test, in the order of the header
unfoldable pub texts_of : (List ℕ → Bool) → List (List ℕ) → List (List ℕ)
texts_of test [] = []
texts_of test (line ∷ lines) = if test line then field_text line (take_while is_folded lines) ∷ texts_of test lines else texts_of test lines

-- the line, the folded lines under it, and the rest are the lines
pub record IsField (lines : List (List ℕ)) (line : List ℕ) (folded rest : List (List ℕ)) : Type 0 where
  pub spelled : lines ≡ line ∷ folded ++ rest
  pub filled : (length line == 0) ≡ false
  pub folded_are : take_while is_folded (folded ++ rest) ≡ folded

-- no line is left, or an empty one ends the header
abbrev pub IsHeaderEnd : List (List ℕ) → Type 0
IsHeaderEnd [] = Unit {0}
IsHeaderEnd (line ∷ _) = (length line == 0) ≡ true
