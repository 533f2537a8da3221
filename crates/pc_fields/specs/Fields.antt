-- The kinds of fields, and reading one from the front of bytes.
use Rattle.std.specs.Prelude.{◌≡◌, ℕ, ◌+◌, ◌≤◌, Bool, true, not, IsTrue, ◌&&◌, ◌==◌, nat_lt, nat_le, List, ◌++◌, length, take, drop, Option, None, Some, Result, Ok, Err, if◌then◌else◌}
use Rattle.std.specs.Int.{Width, byte_len, from_be_bytes}
use Rattle.pc_base.specs.Name.{is_name}
use Rattle.pc_base.specs.Line.{is_line}
use Rattle.pc_tables.specs.Table.{is_among}
use Rattle.pc_fields.specs.FieldBytes.{u8_field, u16_field, u32_field, u64_field, bool_field, name_field, line_field}
use Rattle.pc_fields.specs.declared.cursor.Halt.{Halt}
use Rattle.pc_fields.specs.declared.cursor.Halt.TheVariants.{NoField, Memory}

pub data Kind : Type 0 where
  name_kind : Kind
  u8_kind : Kind
  u16_kind : Kind
  u32_kind : Kind
  u64_kind : Kind
  bool_kind : Kind
  digest_kind : Kind
  line_kind : Kind

-- what a field of this kind holds
abbrev pub Held : Kind → Type 0
Held name_kind = List ℕ
Held u8_kind = ℕ
Held u16_kind = ℕ
Held u32_kind = ℕ
Held u64_kind = ℕ
Held bool_kind = Bool
Held digest_kind = List ℕ
Held line_kind = List ℕ

-- it fits the field
abbrev pub fits : (kind : Kind) → Held kind → Bool
fits name_kind name = is_name name
fits u8_kind number = nat_lt number 256
fits u16_kind number = nat_lt number 65536
fits u32_kind number = nat_lt number 4294967296
fits u64_kind number = nat_lt number 18446744073709551616
fits bool_kind on = true
fits digest_kind digest = length digest == 32
fits line_kind line = is_line line

-- the bytes of the field
abbrev pub field_of : (kind : Kind) → Held kind → List ℕ
field_of name_kind name = name_field name
field_of u8_kind number = u8_field number
field_of u16_kind number = u16_field number
field_of u32_kind number = u32_field number
field_of u64_kind number = u64_field number
field_of bool_kind on = bool_field on
field_of digest_kind digest = digest
field_of line_kind line = line_field line

-- any value
abbrev pub any : {X : Type 0} → X → Bool
any _ = true

-- a number in this range
abbrev pub within : ℕ → ℕ → ℕ → Bool
within least most number = nat_le least number && nat_le number most

-- a line with no more bytes than there is room
abbrev pub has_room : ℕ → List ℕ → Bool
has_room room line = nat_le (length line) room

-- the name is none of these
abbrev pub is_new : List (List ℕ) → List ℕ → Bool
is_new names name = not (is_among name names)

-- the bytes begin with a field that holds this, which passes the test
pub record Takes (kind : Kind) (test : Held kind → Bool) (bytes : List ℕ) (value : Held kind) (rest : List ℕ) : Type 0 where
  pub fit : IsTrue (fits kind value)
  pub passed : IsTrue (test value)
  pub split : bytes ≡ field_of kind value ++ rest

-- no field of this kind that passes the test is at the front of the bytes
abbrev pub NoneIsAt : (kind : Kind) → (Held kind → Bool) → List ℕ → Type 0
NoneIsAt kind test bytes = (value : Held kind) (rest : List ℕ) → Takes kind test bytes value rest → ⊥

-- reading one field: it is taken from the bytes, or there is none
abbrev pub FieldOutcome : (kind : Kind) → (Held kind → Bool) → List ℕ → List ℕ → Result (Held kind) Halt → Type 0
FieldOutcome kind test old new (Ok value) = Takes kind test old value new
FieldOutcome kind test old new (Err NoField) = (new ≡ old) × NoneIsAt kind test old
FieldOutcome kind test old new (Err Memory) = Unit {0}

pub record FieldReads (kind : Kind) (test : Held kind → Bool) (old new : List ℕ) (result : Result (Held kind) Halt) : Type 0 where
  pub told : FieldOutcome kind test old new result

-- the value of the field at the front of the bytes, which takes so many of them
abbrev pub FieldAt : (kind : Kind) → (Held kind → Bool) → List ℕ → ℕ → Option (Held kind) → Type 0
FieldAt kind test bytes count (Some value) = Takes kind test bytes value (drop count bytes) × (count ≤ length bytes)
FieldAt kind test bytes count None = NoneIsAt kind test bytes

-- the line at the front of the bytes, where it has no more bytes than there is room
abbrev pub LineAt : ℕ → List ℕ → Result (List ℕ) Halt → Type 0
LineAt room bytes (Ok line) = Takes line_kind (has_room room) bytes line (drop (length line + 2) bytes) × (length line + 2 ≤ length bytes)
LineAt room bytes (Err NoField) = NoneIsAt line_kind (has_room room) bytes
LineAt room bytes (Err Memory) = Unit {0}

-- the number at the front of the bytes
abbrev pub number_at : Width → List ℕ → Option ℕ
number_at width bytes = if nat_lt (length bytes) (byte_len width) then None else Some (from_be_bytes width (take (byte_len width) bytes))
