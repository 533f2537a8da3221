-- The bytes of fields, and the fields of messages and lists.
use Rattle.std.specs.Prelude.{ℕ, Bool, List, [], ◌∷◌, ◌++◌, length, map, if◌then◌else◌}
use Rattle.std.specs.List.{flat_map}
use Rattle.std.specs.Int.{w16, w32, w64, to_be_bytes}

-- numbers of one, two, four and eight bytes, the highest first
abbrev pub u8_field : ℕ → List ℕ
u8_field number = number ∷ []

unfoldable pub u16_field : ℕ → List ℕ
u16_field number = to_be_bytes w16 number

unfoldable pub u32_field : ℕ → List ℕ
u32_field number = to_be_bytes w32 number

unfoldable pub u64_field : ℕ → List ℕ
u64_field number = to_be_bytes w64 number

-- on is 1, and off 0
abbrev pub bool_field : Bool → List ℕ
bool_field on = u8_field (if on then 1 else 0)

-- a name: its length in one byte, and its bytes
abbrev pub name_field : List ℕ → List ℕ
name_field name = length name ∷ name

-- a line: its length in two bytes, and its bytes
abbrev pub line_field : List ℕ → List ℕ
line_field line = u16_field (length line) ++ line

-- a message: the number of its lines, and the lines
abbrev pub message_fields : List (List ℕ) → List (List ℕ)
message_fields lines = u32_field (length lines) ∷ map line_field lines

-- a number that says how many, and the fields of each item
abbrev pub short_list : {X : Type 0} → (X → List (List ℕ)) → List X → List (List ℕ)
short_list fields items = u16_field (length items) ∷ flat_map fields items

abbrev pub long_list : {X : Type 0} → (X → List (List ℕ)) → List X → List (List ℕ)
long_list fields items = u32_field (length items) ∷ flat_map fields items
