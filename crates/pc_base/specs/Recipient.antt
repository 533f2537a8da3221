-- How an address is shown that nobody has.
use Rattle.std.specs.Prelude.{ℕ, ◌==◌, Bool, ◌&&◌, List, [], ◌∷◌, length, map, take, if◌then◌else◌, nat_lt, nat_le}
use Rattle.std.specs.List.{list_all}
use Rattle.pc_base.specs.Name.{is_printed}

-- a byte that isn't printed is shown as a question mark
abbrev pub shown_byte : ℕ → ℕ
shown_byte byte = if is_printed byte then byte else 63

-- the first 64 bytes, or a dash where there is none
abbrev pub shown_of : List ℕ → List ℕ
shown_of address = if length address == 0 then 45 ∷ [] else map shown_byte (take 64 address)

-- 1 to 64 printed bytes
abbrev pub is_shown : List ℕ → Bool
is_shown bytes = nat_lt 0 (length bytes) && nat_le (length bytes) 64 && list_all is_printed bytes
