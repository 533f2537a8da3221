-- Reading an area from the left: what stands there, or the place of the first fault.
use Rattle.std.specs.Prelude.{ℕ, ◌+◌, ◌-◌, ◌^◌, ◌==◌, min, max, ◌&&◌, if◌then◌else◌, nat_le, nat_lt, Bool, List, [], ◌∷◌, length, take, drop, Option, None, Some, Result, Ok, Err}
use Rattle.std.specs.Int.{Width, from_be_bytes, byte_len, w8, w32, w64}
use Rattle.pc_log.specs.declared.head.Numbers.{Numbers}
use Rattle.pc_log.specs.Area.{Head, magic}

-- one step after another, up to the first fault
infixl 10 ◌>>=◌
abbrev pub ◌>>=◌ : {A B : Type 0} → Result A ℕ → (A → Result B ℕ) → Result B ℕ
(Ok value) >>= next = next value
(Err place) >>= next = Err place

-- a number at the front and what follows it; or its place, where it is cut off or out of its range
abbrev pub number_at : Width → ℕ → ℕ → ℕ → List ℕ → Result (ℕ × List ℕ) ℕ
number_at width place least most bytes =
    if nat_lt (length bytes) (byte_len width) then Err place
    else (if nat_le least (from_be_bytes width (take (byte_len width) bytes)) && nat_le (from_be_bytes width (take (byte_len width) bytes)) most
    then Ok (from_be_bytes width (take (byte_len width) bytes), drop (byte_len width) bytes) else Err place)

-- so many bytes from a place on; or the place, where they are cut off
abbrev pub bytes_at : ℕ → ℕ → List ℕ → Result (List ℕ) ℕ
bytes_at place count area = if nat_le (place + count) (length area) then Ok (take count (drop place area)) else Err place

-- the numbers of a head of this kind, behind the area's gate
unfoldable pub numbers_of : ℕ → List ℕ → Result Numbers ℕ
numbers_of kind bytes = do
  name ← number_at w64 1 magic magic bytes
  of_kind ← number_at w8 9 (max kind 1) (min kind 3) name.1
  generation ← number_at w64 10 1 (2 ^ 63 - 1) of_kind.1
  first ← number_at w64 18 1 (2 ^ 63) generation.1
  size ← number_at w32 26 0 1073741824 first.1
  Ok (record { generation = generation.0; first = first.0; size = size.0 })

-- the head of a made area
unfoldable pub head_of : ℕ → List ℕ → Result Head ℕ
head_of kind area = do
  numbers ← numbers_of kind (take 29 (drop 1 area))
  base ← bytes_at 30 numbers.size area
  Ok (record { kind = kind; generation = numbers.generation; first = numbers.first; base = base })

-- how far an area was read: the gate that comes next, and the entries before it with their bytes
pub record Reached : Type 0 where
  pub gate : ℕ
  pub entries : ℕ
  pub bytes : ℕ

-- behind a head with this base
abbrev pub behind_head : List ℕ → Reached
behind_head base = record { gate = 30 + length base; entries = 0; bytes = 0 }

-- behind an entry of so many bytes
abbrev pub behind : ℕ → Reached → Reached
behind count reached = record { gate = reached.gate + 5 + count; entries = reached.entries + 1; bytes = reached.bytes + count }

-- with an entry of so many bytes more the trail keeps its limits
abbrev pub has_room : Reached → ℕ → Bool
has_room reached count = nat_lt reached.entries 65536 && nat_le (reached.bytes + count) 16777216

-- how many bytes the entry has whose length follows an open gate
unfoldable pub size_of : Reached → List ℕ → Result ℕ ℕ
size_of reached bytes = do
  size ← number_at w32 (reached.gate + 1) 1 8388608 bytes
  if has_room reached size.0 then Ok size.0 else Err reached.gate

-- whether the gate is open: then how many bytes the entry has; nothing where it is closed
abbrev pub opened : Reached → List ℕ → Result (Option ℕ) ℕ
opened reached [] = Err reached.gate
opened reached (gate ∷ bytes) = if gate == 1 then (do size ← size_of reached bytes; Ok (Some size)) else Ok None

-- an entry of so many bytes, where there is one
abbrev pub entry_at : Reached → Option ℕ → List ℕ → Result (Option (List ℕ)) ℕ
entry_at reached None area = Ok None
entry_at reached (Some size) area = do
  entry ← bytes_at (reached.gate + 5) size area
  Ok (Some entry)

-- the next entry, nothing at the closed gate, or the place of the first fault
unfoldable pub next_of : Reached → List ℕ → Result (Option (List ℕ)) ℕ
next_of reached area = do
  size ← opened reached (take 5 (drop reached.gate area))
  entry_at reached size area

-- how far an area was read
pub record OpeningState : Type 0 where
  pub area : ℕ
  pub reached : Reached
