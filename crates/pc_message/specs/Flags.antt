-- The flags of a message: bit f of the number is flag f.
use Rattle.std.specs.Prelude.{ℕ, ◌^◌, ◌==◌, Bool, bit_and, bit_or, if◌then◌else◌}
use Rattle.std.specs.Int.{bit_at, bit_not, w16}

-- whether a flag is on
abbrev pub flag_of : ℕ → ℕ → Bool
flag_of flags flag = bit_at flags flag == 1

-- the flags with this one on or off
abbrev pub flags_with : ℕ → ℕ → Bool → ℕ
flags_with flags flag on = if on then bit_or flags (2 ^ flag) else bit_and flags (bit_not w16 (2 ^ flag))
