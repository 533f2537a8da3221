-- Names and passwords: tests on their bytes; the name of the inbox.
use Rattle.std.specs.Prelude.{ℕ, Bool, false, ◌==◌, ◌&&◌, ◌||◌, nat_lt, nat_le, List, [], ◌∷◌, length, codes}
use Rattle.std.specs.List.{list_all}

-- a small letter
abbrev pub is_letter : ℕ → Bool
is_letter byte = nat_le 97 byte && nat_le byte 122

-- a small letter, a digit, a dot, a low line or a dash
abbrev pub is_name_byte : ℕ → Bool
is_name_byte byte = is_letter byte || (nat_le 48 byte && nat_le byte 57) || byte == 46 || byte == 95 || byte == 45

-- 1 to 32 such bytes, the first a letter
abbrev pub is_name : List ℕ → Bool
is_name [] = false
is_name (first ∷ others) = is_letter first && list_all is_name_byte others && nat_lt (length others) 32

-- the mailbox of new mail, which can't be dropped
abbrev pub inbox : List ℕ
inbox = codes "inbox"

-- a byte that is seen when it is printed, other than a space
abbrev pub is_printed : ℕ → Bool
is_printed byte = nat_le 33 byte && nat_le byte 126

-- 1 to 64 of them
abbrev pub is_password : List ℕ → Bool
is_password bytes = nat_lt 0 (length bytes) && nat_le (length bytes) 64 && list_all is_printed bytes
