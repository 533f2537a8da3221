-- What opening answers.
use Rattle.std.specs.Prelude.{◌≡◌, ◌⊎◌, ℕ, ◌+◌, List, [], ◌∷◌, ◌++◌, length, drop, take, true, false, Option, None, Some, Result, Ok, Err}
use Rattle.pc_log.specs.declared.fault.LogFault.{LogFault}
use Rattle.pc_log.specs.declared.head.Numbers.{Numbers}
use Rattle.pc_log.specs.declared.found.PlacedEntry.{PlacedEntry}
use Rattle.pc_log.specs.declared.found.Start.{Start}
use Rattle.pc_log.specs.declared.found.Start.TheVariants.{NotMade, Made}
use Rattle.pc_log.specs.declared.found.Found.{Found}
use Rattle.pc_log.specs.declared.found.Found.TheVariants as found
use Rattle.pc_log.specs.declared.fault.LogFault.TheVariants.{Device, Malformed, Memory}
use Rattle.pc_log.specs.Area.{Head, IsEntry, IsHead, IsTrail, Spelled, entry_bytes, front, is_made}
use Rattle.std.specs.List.{flat_map}
use Rattle.pc_log.specs.Logs.{LogState}
use Rattle.pc_log.specs.Reading.{Reached, OpeningState, behind, behind_head, has_room, head_of, next_of, numbers_of}

-- what reading without a disk answers: it gives no other fault
abbrev pub Parses : {X Y : Type 0} → (X → Y) → Result X LogFault → Result Y ℕ → Type 0
Parses view (Ok value) read = read ≡ Ok (view value)
Parses view (Err Device) read = ⊥
Parses view (Err (Malformed place)) read = read ≡ Err place
Parses view (Err Memory) read = ⊥

-- what was read, or the place of the first fault; unless the disk failed or memory was wanted
abbrev pub Gives : {X Y : Type 0} → (X → Y) → Result X LogFault → Result Y ℕ → Type 0
Gives view (Ok value) read = read ≡ Ok (view value)
Gives view (Err Device) read = Unit {0}
Gives view (Err (Malformed place)) read = read ≡ Err place
Gives view (Err Memory) read = Unit {0}

-- a call of the disk failed
abbrev pub OnDevice : {X : Type 0} → Result X LogFault → Type 0 → Type 0
OnDevice (Ok value) P = Unit {0}
OnDevice (Err Device) P = P
OnDevice (Err (Malformed place)) P = Unit {0}
OnDevice (Err Memory) P = Unit {0}

-- memory was wanted
abbrev pub OnMemory : {X : Type 0} → Result X LogFault → Type 0 → Type 0
OnMemory (Ok value) P = Unit {0}
OnMemory (Err Device) P = Unit {0}
OnMemory (Err (Malformed place)) P = Unit {0}
OnMemory (Err Memory) P = P

-- a field is at fault
abbrev pub IfMalformed : {X : Type 0} → Result X LogFault → (ℕ → Type 0) → Type 0
IfMalformed (Ok value) P = Unit {0}
IfMalformed (Err Device) P = Unit {0}
IfMalformed (Err (Malformed place)) P = P place
IfMalformed (Err Memory) P = Unit {0}

-- the area begins with an open gate and this head
pub record BeginsWith (head : Head) (area : List ℕ) : Type 0 where
  pub right : IsHead head
  pub bytes : area ≡ front head [] ++ drop (30 + length head.base) area

-- the head of an area, or that it isn't made, or the first fault of its head
abbrev pub Starts : Result Start LogFault → ℕ → List ℕ → Type 0
Starts (Ok NotMade) kind area = is_made area ≡ false
Starts (Ok (Made opening generation first base)) kind area = (is_made area ≡ true) × (head_of kind area ≡ Ok (record { kind = kind; generation = generation; first = first; base = base }))
Starts (Err Device) kind area = Unit {0}
Starts (Err (Malformed place)) kind area = (is_made area ≡ true) × (head_of kind area ≡ Err place)
Starts (Err Memory) kind area = Unit {0}

-- the numbers of an area's head, or that it isn't made, or the first fault of them
abbrev pub Peeks : Result (Option Numbers) LogFault → ℕ → List ℕ → Type 0
Peeks (Ok None) kind area = is_made area ≡ false
Peeks (Ok (Some numbers)) kind area = (is_made area ≡ true) × (numbers_of kind (take 29 (drop 1 area)) ≡ Ok numbers)
Peeks (Err Device) kind area = Unit {0}
Peeks (Err (Malformed place)) kind area = (is_made area ≡ true) × (numbers_of kind (take 29 (drop 1 area)) ≡ Err place)
Peeks (Err Memory) kind area = ⊥

-- the area is made: how far it was read then, and the parts of its head
abbrev pub IfMade : Result Start LogFault → (OpeningState → ℕ → ℕ → List ℕ → Type 0) → Type 0
IfMade (Ok NotMade) P = Unit {0}
IfMade (Ok (Made opening generation first base)) P = P opening generation first base
IfMade (Err fault) P = Unit {0}

-- there is an entry
abbrev pub IfEntry : Result (Option PlacedEntry) LogFault → (PlacedEntry → Type 0) → Type 0
IfEntry (Ok None) P = Unit {0}
IfEntry (Ok (Some entry)) P = P entry
IfEntry (Err fault) P = Unit {0}

-- the bytes of an entry, where there is one
abbrev pub bytes_of_next : Option PlacedEntry → Option (List ℕ)
bytes_of_next None = None
bytes_of_next (Some entry) = Some entry.bytes

-- an entry was passed that stands at the gate and may stand there
pub record PassesEntry (old new : OpeningState) (entry : PlacedEntry) : Type 0 where
  pub place : entry.place ≡ old.reached.gate
  pub size : IsEntry entry.bytes
  pub room : has_room old.reached (length entry.bytes) ≡ true
  pub reached : new ≡ record { area = old.area; reached = behind (length entry.bytes) old.reached }

-- with an entry it was passed; else all is as it was
abbrev pub Passes : OpeningState → OpeningState → Result (Option PlacedEntry) LogFault → Type 0
Passes old new (Ok None) = new ≡ old
Passes old new (Ok (Some entry)) = PassesEntry old new entry
Passes old new (Err fault) = new ≡ old

-- from a gate on these entries are read one after another
abbrev pub Reads : List ℕ → Reached → List (List ℕ) → Reached → Type 0
Reads area from [] to = to ≡ from
Reads area from (entry ∷ entries) to = (next_of from area ≡ Ok (Some entry)) × Reads area (behind (length entry) from) entries to

-- entries with the places of their gates, of which the first stands here
abbrev pub placed : ℕ → List (List ℕ) → List PlacedEntry
placed gate [] = []
placed gate (entry ∷ entries) = record { place = gate; bytes = entry } ∷ placed (gate + 5 + length entry) entries

-- these entries were read, each at its place, and stand there
pub record ReadsSoFar (area : List ℕ) (from to : Reached) (found : List PlacedEntry) : Type 0 where
  pub entries : List (List ℕ)
  pub placed_so : found ≡ placed from.gate entries
  pub reads : Reads area from entries to
  pub stands : drop from.gate area ≡ flat_map entry_bytes entries ++ drop to.gate area

-- all entries up to the closed gate were read
pub record ReadsAll (area : List ℕ) (from to : Reached) (found : List PlacedEntry) : Type 0 where
  pub so_far : ReadsSoFar area from to found
  pub closed : next_of to area ≡ Ok None

-- behind some entries stands a fault
pub record ReadsToFault (area : List ℕ) (from : Reached) (place : ℕ) : Type 0 where
  pub entries : List (List ℕ)
  pub to : Reached
  pub reads : Reads area from entries to
  pub fault : next_of to area ≡ Err place

-- an area of this kind with this head and these entries, within their limits
pub record IsAreaOf (kind : ℕ) (head : Head) (entries : List (List ℕ)) (area : List ℕ) : Type 0 where
  pub of_kind : head.kind ≡ kind
  pub right : IsHead head
  pub trail : IsTrail entries
  pub spelled : Spelled head entries area

-- what was found in a made area stands there
pub record FindsMade (area kind : ℕ) (bytes : List ℕ) (log : LogState) (generation first : ℕ) (base : List ℕ) (found : List PlacedEntry) : Type 0 where
  pub entries : List (List ℕ)
  pub placed_so : found ≡ placed (30 + length base) entries
  pub stands : IsAreaOf kind (record { kind = kind; generation = generation; first = first; base = base }) entries bytes
  pub log_is : log ≡ record { area = area; gate = length (front (record { kind = kind; generation = generation; first = first; base = base }) entries) }

-- what opening finds
abbrev pub Finds : Result Found LogFault → ℕ → ℕ → List ℕ → Type 0
Finds (Ok found.NotMade) area kind bytes = is_made bytes ≡ false
Finds (Ok (found.Made log generation first base entries)) area kind bytes = FindsMade area kind bytes log generation first base entries.items
Finds (Err fault) area kind bytes = Unit {0}

-- opening finds this head and these entries, unless the disk failed or memory was wanted
abbrev pub FindsAll : Result Found LogFault → Head → List (List ℕ) → Type 0
FindsAll (Ok found.NotMade) head entries = ⊥
FindsAll (Ok (found.Made log generation first base found)) head entries = (generation ≡ head.generation) × (first ≡ head.first) × (base ≡ head.base) × (found.items ≡ placed (30 + length head.base) entries)
FindsAll (Err Device) head entries = Unit {0}
FindsAll (Err (Malformed place)) head entries = ⊥
FindsAll (Err Memory) head entries = Unit {0}

-- the first fault of a made area stands here: in its head, or behind some entries
abbrev pub FindsFault : ℕ → List ℕ → ℕ → Type 0
FindsFault kind area place = (is_made area ≡ true) × ((head_of kind area ≡ Err place) ⊎ ((head : Head) × (head_of kind area ≡ Ok head) × ReadsToFault area (behind_head head.base) place))

-- a made area was found, with the log of it
abbrev pub IfFound : Result Found LogFault → (LogState → Type 0) → Type 0
IfFound (Ok found.NotMade) P = Unit {0}
IfFound (Ok (found.Made log generation first base entries)) P = P log
IfFound (Err fault) P = Unit {0}
