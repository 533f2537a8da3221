-- Numbers in decimal digits, as they are read: leading zeros count for the length alone.
use Rattle.std.specs.Prelude.{ℕ, ◌+◌, ◌*◌, ◌-◌, ◌^◌, Bool, ◌&&◌, nat_lt, nat_le, List, [], ◌∷◌, length}
use Rattle.std.specs.List.{list_all}

-- a decimal digit
abbrev pub is_digit : ℕ → Bool
is_digit byte = nat_le 48 byte && nat_le byte 57

-- what digits stand for, each by its place from the right
unfoldable pub decimal_value : List ℕ → ℕ
decimal_value [] = 0
decimal_value (digit ∷ digits) = (digit - 48) * 10 ^ length digits + decimal_value digits

-- 1 to `most` digits
abbrev pub has_digits : ℕ → List ℕ → Bool
has_digits most bytes = nat_lt 0 (length bytes) && nat_le (length bytes) most && list_all is_digit bytes

-- and a value below the limit
abbrev pub is_number : ℕ → ℕ → List ℕ → Bool
is_number most limit bytes = has_digits most bytes && nat_lt (decimal_value bytes) limit
