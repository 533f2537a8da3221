-- The bytes of an area: a gate, a head, and entries behind gates of their own.
use Rattle.std.specs.Prelude.{◌≡◌, ℕ, ◌+◌, ◌^◌, ◌<◌, ◌≤◌, ◌==◌, Bool, false, List, [], ◌∷◌, ◌++◌, length}
use Rattle.std.specs.List.{flat_map, AllByRecursion}
use Rattle.std.specs.Int.{to_be_bytes, w8, w32, w64}

-- what stands before the entries; kind is 1 for an account, 2 for an office, 3 for a cache, and first
-- is the number of the first entry after the base
pub record Head : Type 0 where
  pub kind : ℕ
  pub generation : ℕ
  pub first : ℕ
  pub base : List ℕ

-- the bytes of `PCMAIL1` and LF, as one number
abbrev pub magic : ℕ
magic = 0x50434d41494c310a

-- the head behind the area's gate
unfoldable pub head_bytes : Head → List ℕ
head_bytes head = to_be_bytes w64 magic ++ (to_be_bytes w8 head.kind ++ (to_be_bytes w64 head.generation ++ (to_be_bytes w64 head.first ++ (to_be_bytes w32 (length head.base) ++ head.base))))

-- an entry behind its open gate
unfoldable pub entry_bytes : List ℕ → List ℕ
entry_bytes entry = 1 ∷ (to_be_bytes w32 (length entry) ++ entry)

-- the bytes begin with an open gate and the length of an entry
pub record SpellsSize (bytes : List ℕ) (size : ℕ) : Type 0 where
  pub rest : List ℕ
  pub parts : bytes ≡ 1 ∷ (to_be_bytes w32 size ++ rest)

-- what stands before the closed gate
abbrev pub front : Head → List (List ℕ) → List ℕ
front head entries = 1 ∷ (head_bytes head ++ flat_map entry_bytes entries)

-- the area as it is made: no entry, and the closed gate ends it
abbrev pub fresh : Head → List ℕ
fresh head = front head [] ++ 0 ∷ []

-- the area has this head and these entries up to its first closed gate; what follows has no meaning
pub record Spelled (head : Head) (entries : List (List ℕ)) (area : List ℕ) : Type 0 where
  pub gate : ℕ
  pub rest : List ℕ
  pub bytes : area ≡ front head entries ++ gate ∷ rest
  pub closed : gate ≡ 1 → ⊥

-- an area is made where it has two bytes at least and its gate is open
abbrev pub is_made : List ℕ → Bool
is_made [] = false
is_made (gate ∷ []) = false
is_made (gate ∷ next ∷ rest) = gate == 1

-- what a head may say
pub record IsHead (head : Head) : Type 0 where
  pub kind : (1 ≤ head.kind) × (head.kind ≤ 3)
  pub generation : (1 ≤ head.generation) × (head.generation < 2 ^ 63)
  pub first : (1 ≤ head.first) × (head.first ≤ 2 ^ 63)
  pub base : length head.base ≤ 1073741824

-- how many bytes an entry may have
abbrev pub IsEntry : List ℕ → Type 0
IsEntry entry = (1 ≤ length entry) × (length entry ≤ 8388608)

-- how many bytes entries have
abbrev pub bytes_of : List (List ℕ) → ℕ
bytes_of [] = 0
bytes_of (entry ∷ entries) = length entry + bytes_of entries

-- the entries that may stand after a base
pub record IsTrail (entries : List (List ℕ)) : Type 0 where
  pub each : AllByRecursion IsEntry entries
  pub count : length entries ≤ 65536
  pub bytes : bytes_of entries ≤ 16777216
