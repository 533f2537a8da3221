-- The words of a line. The space, byte 32, separates them; a tab is a byte like others.
use Rattle.std.specs.Prelude.{ℕ, Bool, true, ◌==◌, List, [], ◌∷◌, if◌then◌else◌}
use Rattle.std.specs.List.{onto_first}

-- a space
abbrev pub is_space : ℕ → Bool
is_space byte = byte == 32

-- no word goes on here: the text is over, or a space comes first
abbrev pub is_between : List ℕ → Bool
is_between [] = true
is_between (byte ∷ bytes) = is_space byte

-- the words of a text with one more byte in front, given whether no word begins the text, and its words
abbrev pub with_byte : ℕ → Bool → List (List ℕ) → List (List ℕ)
with_byte byte between words =
    if is_space byte then words else (if between then (byte ∷ []) ∷ words else onto_first byte words)

-- the words of a text: its runs of bytes other than the space, each as long as it goes
abbrev pub words_of : List ℕ → List (List ℕ)
words_of [] = []
words_of (byte ∷ bytes) = with_byte byte (is_between bytes) (words_of bytes)

-- the text without the spaces that it begins with
abbrev pub without_spaces : List ℕ → List ℕ
without_spaces [] = []
without_spaces (byte ∷ bytes) = if is_space byte then without_spaces bytes else byte ∷ bytes

-- the text from its first space on
abbrev pub from_space : List ℕ → List ℕ
from_space [] = []
from_space (byte ∷ bytes) = if is_space byte then byte ∷ bytes else from_space bytes

-- what follows the first word
abbrev pub after_word : List ℕ → List ℕ
after_word text = from_space (without_spaces text)
