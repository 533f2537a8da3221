-- Reading the entries of an area, one after another.
use Rattle.std.specs.Prelude.{◌≡◌, ◌⊎◌, ℕ, ◌+◌, ◌*◌, ◌^◌, ◌<◌, ◌≤◌, true, false, List, ◌++◌, drop, length, Option, None, Some, Result, Ok, Err}
use Rattle.std.specs.List.{AllByRecursion, flat_map}
use Rattle.pc_base.specs.declared.machine.Machine.{Ghosts}
use Rattle.pc_base.specs.declared.failure.ReadFault.{ReadFault}
use Rattle.pc_base.specs.declared.failure.ReadFault.TheVariants as read
use Rattle.pc_disk.specs.Images.{Images, area_of, other_of}
use Rattle.pc_disk.specs.Outcomes.{Only}
use Rattle.pc_log.specs.declared.fault.LogFault.{LogFault}
use Rattle.pc_log.specs.declared.fault.LogFault.TheVariants as log
use Rattle.pc_log.specs.declared.head.Numbers.{Numbers}
use Rattle.pc_log.specs.Area.{Head, IsEntry, IsHead, IsTrail, Spelled, bytes_of, entry_bytes, front, is_made}
use Rattle.pc_log.specs.Reading.{OpeningState, Reached, behind, has_room, next_of}
use Rattle.pc_log.specs.Opening.{Reads}
use Rattle.pc_base.specs.declared.store_fault.StoreFault.{StoreFault}
use Rattle.pc_base.specs.declared.store_fault.StoreFault.TheVariants.{NotMade, Device, Malformed, Memory}
use Rattle.pc_store.specs.declared.reading.ReadEntry.{ReadEntry}
use Rattle.pc_store.specs.declared.reading.Entries.{Entries}
use Rattle.pc_store.specs.declared.reading.History.{History}
use Rattle.pc_store.specs.History.{AreAllowed, IsHistory, after, written_of}
use Rattle.pc_store.specs.Current.{HasFault, HasNumbers, IsCurrent, IsOlder, NoneCounts, NoneMade}
use Rattle.pc_store.specs.Opening.{FaultBehind, FirstFault, IsOutside, limited}

-- a fault of the log of an area, as one of the store
abbrev pub of_log : ℕ → LogFault → StoreFault
of_log index log.Device = Device
of_log index (log.Malformed place) = Malformed index place
of_log index log.Memory = Memory

-- and where a number past the last is a fault of the gate
abbrev pub limited_fault : ℕ → ℕ → ℕ → LogFault → StoreFault
limited_fault index number gate log.Device = Device
limited_fault index number gate (log.Malformed place) = Malformed index (limited number gate place)
limited_fault index number gate log.Memory = Memory

-- the place of a fault doesn't wrap
abbrev pub FaultFits : ℕ → ReadFault → Type 0
FaultFits at (read.Malformed place) = at + place < 2 ^ 64
FaultFits at read.Memory = Unit {0}

-- a fault of reading bytes that stand at this place of an area
abbrev pub of_read : ℕ → ℕ → ReadFault → StoreFault
of_read index at (read.Malformed place) = Malformed index (at + place)
of_read index at read.Memory = Memory

-- bytes behind a gate are no entry, or one that isn't allowed
abbrev pub IsRefused : {M E : Type 0} → Ghosts M E → List ℕ → ℕ → M → ℕ → Type 0
IsRefused {E = E} machine bytes place state fault = ((within : ℕ) × machine.entry_fault bytes within × (fault ≡ place + 5 + within)) ⊎ ((entry : E) × (machine.written entry ≡ bytes) × machine.fits entry × (machine.can state entry ≡ false) × (fault ≡ place))

-- an entry was read that is allowed
pub record TakesEntry {M E : Type 0} (machine : Ghosts M E) (tells : Type 0) (area : List ℕ) (old new : OpeningState) (state state' : M) (number : ℕ) (entry : E) : Type 0 where
  pub reads : tells → next_of old.reached area ≡ Ok (Some (machine.written entry))
  pub spelled : tells → drop old.reached.gate area ≡ entry_bytes (machine.written entry) ++ drop new.reached.gate area
  pub size : IsEntry (machine.written entry)
  pub room : has_room old.reached (length (machine.written entry)) ≡ true
  pub reached : new ≡ record { area = old.area; reached = behind (length (machine.written entry)) old.reached }
  pub numbered : number < 2 ^ 63
  pub fits : machine.fits entry
  pub allowed : machine.can state entry ≡ true
  pub stepped : state' ≡ machine.step state entry

-- an entry, or nothing at the closed gate, or the first fault behind the gate
abbrev pub NextIs : {M E : Type 0} → Ghosts M E → Type 0 → List ℕ → OpeningState → OpeningState → M → M → ℕ → Result (Option (ReadEntry E)) StoreFault → Type 0
NextIs machine tells area old new state state' number (Ok None) = (new ≡ old) × (state' ≡ state) × (tells → next_of old.reached area ≡ Ok None)
NextIs machine tells area old new state state' number (Ok (Some found)) = TakesEntry machine tells area old new state state' number found.entry × (found.size ≡ length (machine.written found.entry))
NextIs machine tells area old new state state' number (Err NotMade) = ⊥
NextIs machine tells area old new state state' number (Err Device) = Unit {0}
NextIs machine tells area old new state state' number (Err (Malformed place_area place)) = (place_area ≡ old.area) × (tells → FaultBehind machine area state number old.reached place)
NextIs machine tells area old new state state' number (Err Memory) = Unit {0}

-- an entry is read from the bytes behind a gate and made; or it isn't read, or isn't allowed
abbrev pub MakesEntry : {M E : Type 0} → Ghosts M E → ℕ → List ℕ → ℕ → M → M → Result E StoreFault → Type 0
MakesEntry machine index bytes place old new (Ok entry) = (machine.written entry ≡ bytes) × machine.fits entry × (machine.can old entry ≡ true) × (new ≡ machine.step old entry)
MakesEntry machine index bytes place old new (Err NotMade) = ⊥
MakesEntry machine index bytes place old new (Err Device) = ⊥
MakesEntry machine index bytes place old new (Err (Malformed place_area fault)) = (place_area ≡ index) × IsRefused machine bytes place old fault
MakesEntry machine index bytes place old new (Err Memory) = Unit {0}

-- entries were read one after another, each allowed, from a state and a gate on
pub record TakesEntries {M E : Type 0} (machine : Ghosts M E) (tells : Type 0) (area : List ℕ) (old new : OpeningState) (state state' : M) (first : ℕ) (trail : List E) : Type 0 where
  pub reads : tells → Reads area old.reached (written_of machine trail) new.reached
  pub spelled : tells → drop old.reached.gate area ≡ flat_map entry_bytes (written_of machine trail) ++ drop new.reached.gate area
  pub in_area : new.area ≡ old.area
  pub gate : new.reached.gate ≡ old.reached.gate + 5 * length trail + bytes_of (written_of machine trail)
  pub entries : new.reached.entries ≡ old.reached.entries + length trail
  pub bytes : new.reached.bytes ≡ old.reached.bytes + bytes_of (written_of machine trail)
  pub sizes : AllByRecursion IsEntry (written_of machine trail)
  pub most_entries : new.reached.entries ≤ 65536
  pub most_bytes : new.reached.bytes ≤ 16777216
  pub numbers : first + length trail ≤ 2 ^ 63
  pub fits : AllByRecursion machine.fits trail
  pub allowed : AreAllowed machine state trail
  pub leads : state' ≡ after machine state trail

-- behind some entries that are allowed stands a fault
pub record FaultAfter {M E : Type 0} (machine : Ghosts M E) (area : List ℕ) (from : Reached) (state : M) (first place : ℕ) : Type 0 where
  pub trail : List E
  pub to : Reached
  pub reads : Reads area from (written_of machine trail) to
  pub fits : AllByRecursion machine.fits trail
  pub allowed : AreAllowed machine state trail
  pub numbers : first + length trail ≤ 2 ^ 63
  pub fault : FaultBehind machine area (after machine state trail) (first + length trail) to place

-- all entries up to the closed gate; or the fault behind some entries
abbrev pub EntriesAre : {M E : Type 0} → Ghosts M E → Type 0 → List ℕ → OpeningState → OpeningState → M → M → ℕ → Result (Entries E) StoreFault → Type 0
EntriesAre machine tells area old new state state' first (Ok found) = TakesEntries machine tells area old new state state' first found.trail.items × (found.bytes ≡ bytes_of (written_of machine found.trail.items)) × (tells → next_of new.reached area ≡ Ok None)
EntriesAre machine tells area old new state state' first (Err NotMade) = ⊥
EntriesAre machine tells area old new state state' first (Err Device) = Unit {0}
EntriesAre machine tells area old new state state' first (Err (Malformed place_area place)) = (place_area ≡ old.area) × (tells → FaultAfter machine area old.reached state first place)
EntriesAre machine tells area old new state state' first (Err Memory) = Unit {0}

-- a base's bytes are no record, or one that doesn't suit the number of the first entry
abbrev pub IsBadBase : {M E : Type 0} → Ghosts M E → List ℕ → ℕ → ℕ → Type 0
IsBadBase {M = M} machine base first place = ((fault : ℕ) × machine.record_fault base fault × (place ≡ 30 + fault)) ⊎ ((loaded : M) × machine.is_canonical loaded × (machine.saved loaded ≡ base) × (machine.suits loaded first ≡ false) × (place ≡ 18))

-- the state of a base, with the number of its next entry
pub record LoadsBase {M E : Type 0} (machine : Ghosts M E) (base : List ℕ) (first : ℕ) (state : M) : Type 0 where
  pub loaded : M
  pub canonical : machine.is_canonical loaded
  pub saved : machine.saved loaded ≡ base
  pub suits : machine.suits loaded first ≡ true
  pub numbered : state ≡ machine.numbered loaded first

-- a base isn't read, or doesn't suit the number
abbrev pub BaseFault : {M E : Type 0} → Ghosts M E → ℕ → List ℕ → ℕ → StoreFault → Type 0
BaseFault machine index base first NotMade = ⊥
BaseFault machine index base first Device = ⊥
BaseFault machine index base first (Malformed place_area place) = (place_area ≡ index) × IsBadBase machine base first place
BaseFault machine index base first Memory = Unit {0}

-- the head of a history that was read
abbrev pub head_of_history : {M E : Type 0} → Ghosts M E → History M E → Head
head_of_history machine history = record { kind = machine.KIND; generation = history.generation; first = history.first; base = history.base }

-- what a made area holds, with the state after it
pub record HoldsHistory {M E : Type 0} (machine : Ghosts M E) (tells : Type 0) (area : List ℕ) (history : History M E) : Type 0 where
  pub right : IsHead (head_of_history machine history)
  pub trail : IsTrail (written_of machine history.trail.items)
  pub bytes : history.bytes ≡ bytes_of (written_of machine history.trail.items)
  pub history_is : IsHistory machine (head_of_history machine history) history.trail.items history.state
  pub gate : history.log.gate ≡ length (front (head_of_history machine history) (written_of machine history.trail.items))
  pub spelled : tells → Spelled (head_of_history machine history) (written_of machine history.trail.items) area

-- an area of this number and these bytes holds it
abbrev pub IsHeldIn : {M E : Type 0} → Ghosts M E → Type 0 → ℕ → List ℕ → History M E → Type 0
IsHeldIn machine tells index area history = (history.log.area ≡ index) × HoldsHistory machine tells area history

-- images hold it in the area of its log, which counts
pub record HoldsCurrent {M E : Type 0} (machine : Ghosts M E) (tells : Type 0) (images : Images) (history : History M E) : Type 0 where
  pub within : history.log.area < 2
  pub holds : HoldsHistory machine tells (area_of history.log.area images) history
  pub older : tells → IsOlder machine.KIND history.generation (other_of history.log.area images)

-- a disk holds it, and a crash leaves just that
pub record HoldsSettled {M D E : Type 0} (machine : Ghosts M E) (tells : Type 0) (seen : D → Images) (may_leave : D → Images → Type 0) (disk : D) (history : History M E) : Type 0 where
  pub holds : HoldsCurrent machine tells (seen disk) history
  pub settled : tells → Only (seen disk) (may_leave disk)

-- reading finds this history in this area, unless the disk failed or memory was wanted
abbrev pub FindsHistory : {M E : Type 0} → Ghosts M E → ℕ → Head → List E → Result (History M E) StoreFault → Type 0
FindsHistory machine index head trail (Ok history) = (history.log.area ≡ index) × (head_of_history machine history ≡ head) × (history.trail.items ≡ trail)
FindsHistory machine index head trail (Err fault) = IsOutside fault

-- the fault is the first of a made area whose numbers are read, and has its number; or of the outside
abbrev pub IsFaultAt : {M E : Type 0} → Ghosts M E → ℕ → List ℕ → StoreFault → Type 0
IsFaultAt machine index area NotMade = is_made area ≡ false
IsFaultAt machine index area Device = Unit {0}
IsFaultAt machine index area (Malformed place_area place) = (place_area ≡ index) × FirstFault machine area place
IsFaultAt machine index area Memory = Unit {0}

-- what the head of an area of this number tells: that it isn't made, its numbers, or their first fault
abbrev pub Peeked : ℕ → ℕ → List ℕ → Result (Option Numbers) StoreFault → Type 0
Peeked kind index area (Ok None) = is_made area ≡ false
Peeked kind index area (Ok (Some numbers)) = HasNumbers kind area numbers
Peeked kind index area (Err NotMade) = ⊥
Peeked kind index area (Err Device) = Unit {0}
Peeked kind index area (Err (Malformed place_area place)) = (place_area ≡ index) × HasFault kind area place
Peeked kind index area (Err Memory) = ⊥

-- the area that counts, or that neither is made, or the first fault
abbrev pub Counts : ℕ → Images → Result ℕ StoreFault → Type 0
Counts kind images (Ok index) = IsCurrent kind index images
Counts kind images (Err NotMade) = NoneMade images
Counts kind images (Err Device) = Unit {0}
Counts kind images (Err (Malformed index place)) = NoneCounts kind images index place
Counts kind images (Err Memory) = ⊥
