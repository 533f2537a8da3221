-- The arguments of requests, each spelled by one word.
use Rattle.std.specs.Prelude.{◌≡◌, ℕ, ◌^◌, ◌≤◌, ◌++◌, Bool, IsTrue, List, [], ◌∷◌, decimal, if◌then◌else◌}
use Rattle.pc_base.specs.Name.{is_name, is_password}
use Rattle.pc_base.specs.Number.{is_number, decimal_value}

-- an argument with its value
pub data Argument : Type 0 where
  -- of a user, client, mailbox, board or address
  name : List ℕ → Argument
  password : List ℕ → Argument
  number : ℕ → Argument
  -- yes or no
  switch : Bool → Argument
  -- the number of a flag
  flag : ℕ → Argument
  -- how many
  count : ℕ → Argument
  -- what is selected: an own mailbox, or a board
  mailbox : List ℕ → Argument
  board : List ℕ → Argument

-- the word is digits for the number, maybe with zeros in front
abbrev pub IsDigits : List ℕ → ℕ → Type 0
IsDigits word value = IsTrue (is_number 10 (2 ^ 32) word) × (decimal_value word ≡ value)

-- 1 for yes, 0 for no
abbrev pub digit_of : Bool → ℕ
digit_of on = if on then 1 else 0

-- the word spells the argument
unfoldable pub IsSpelled : Argument → List ℕ → Type 0
IsSpelled (name bytes) word = (word ≡ bytes) × IsTrue (is_name bytes)
IsSpelled (password bytes) word = (word ≡ bytes) × IsTrue (is_password bytes)
IsSpelled (number value) word = IsDigits word value
IsSpelled (switch on) word = IsDigits word (digit_of on)
IsSpelled (flag value) word = IsDigits word value × (value ≤ 15)
IsSpelled (count value) word = IsDigits word value × (1 ≤ value) × (value ≤ 256)
IsSpelled (mailbox bytes) word = (word ≡ bytes) × IsTrue (is_name bytes)
IsSpelled (board bytes) word = (word ≡ 43 ∷ bytes) × IsTrue (is_name bytes)

-- the words spell the arguments, one each and in order
abbrev pub AreSpelled : List Argument → List (List ℕ) → Type 0
AreSpelled [] [] = Unit {0}
AreSpelled (argument ∷ arguments) (word ∷ words) = IsSpelled argument word × AreSpelled arguments words
AreSpelled _ _ = ⊥

-- the word that is written for it
unfoldable pub written : Argument → List ℕ
written (name bytes) = bytes
written (password bytes) = bytes
written (number value) = decimal value
written (switch on) = decimal (digit_of on)
written (flag value) = decimal value
written (count value) = decimal value
written (mailbox bytes) = bytes
written (board bytes) = 43 ∷ bytes

-- each argument's word with one space in front
abbrev pub written_behind : List Argument → List ℕ
written_behind [] = []
written_behind (argument ∷ arguments) = 32 ∷ written argument ++ written_behind arguments
