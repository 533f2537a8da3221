-- Which numbers and messages fit their fields.
use Rattle.std.specs.Prelude.{ℕ, Bool, ◌&&◌, nat_lt, nat_le, List}
use Rattle.std.specs.List.{list_all}
use Rattle.pc_base.specs.Line.{is_line}
use Rattle.pc_message.specs.Message.{size_of}

-- a number of two bytes
abbrev pub is_u16 : ℕ → Bool
is_u16 number = nat_lt number 65536

-- a number of four bytes
abbrev pub is_u32 : ℕ → Bool
is_u32 number = nat_lt number 4294967296

-- a message: lines of at most 1,000 bytes without LF, and 65,536 bytes with two for the end of each
abbrev pub is_message : List (List ℕ) → Bool
is_message lines = list_all is_line lines && nat_le (size_of lines) 65536
