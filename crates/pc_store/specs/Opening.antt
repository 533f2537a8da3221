-- What opening a store answers.
use Rattle.std.specs.Prelude.{◌≡◌, ◌⊎◌, ℕ, ◌+◌, ◌^◌, ◌<◌, ◌≤◌, ◌==◌, ◌&&◌, nat_le, if◌then◌else◌, true, false, List, length, Some, Result, Ok, Err}
use Rattle.std.specs.List.{AllByRecursion}
use Rattle.pc_base.specs.declared.machine.Machine.{Ghosts}
use Rattle.pc_disk.specs.Images.{Images, area_of, InArea}
use Rattle.pc_log.specs.Making.{NoneDue, OldUnmadeOrNew, OnlyLastDue, clear_calls}
use Rattle.pc_log.specs.Area.{Head, is_made}
use Rattle.pc_log.specs.Reading.{Reached, behind_head, head_of, next_of}
use Rattle.pc_log.specs.Opening.{Reads}
use Rattle.pc_store.specs.declared.fault.OpenFault.{OpenFault}
use Rattle.pc_base.specs.declared.store_fault.StoreFault.{StoreFault}
use Rattle.pc_base.specs.declared.store_fault.StoreFault.TheVariants.{NotMade, Device, Malformed, Memory}
use Rattle.pc_store.specs.History.{AreAllowed, IsBase, after, written_of}
use Rattle.pc_store.specs.Current.{IsCurrent, NoneCounts, NoneMade}
use Rattle.pc_store.specs.Store.{StoreState}

-- an area was read as far as here: its base, and entries that are allowed
pub record ReadsTo {M E : Type 0} (machine : Ghosts M E) (area : List ℕ) (head : Head) (base : M) (trail : List E) (reached : Reached) : Type 0 where
  pub is_base : IsBase machine head base
  pub allowed : AreAllowed machine (machine.numbered base head.first) trail
  pub fits : AllByRecursion machine.fits trail
  pub reads : Reads area (behind_head head.base) (written_of machine trail) reached
  pub numbers : head.first + length trail ≤ 2 ^ 63

-- the place of a fault behind a gate, where an entry there would get this number: a number past the
-- last is a fault of the gate, once the length was read
abbrev pub limited : ℕ → ℕ → ℕ → ℕ
limited number gate place = if nat_le (2 ^ 63) number && (place == gate + 5) then gate else place

-- the next entry, which would get this number, is cut off, or passes a limit, or isn't read, or isn't
-- allowed
pub data FaultBehind {M E : Type 0} (machine : Ghosts M E) (area : List ℕ) (state : M) (number : ℕ) (reached : Reached) (place : ℕ) : Type 0 where
  cut_off : (fault : ℕ) → next_of reached area ≡ Err fault → place ≡ limited number reached.gate fault → FaultBehind machine area state number reached place
  past_last : (bytes : List ℕ) → next_of reached area ≡ Ok (Some bytes) → 2 ^ 63 ≤ number → place ≡ reached.gate → FaultBehind machine area state number reached place
  unread : (bytes : List ℕ) (fault : ℕ) → next_of reached area ≡ Ok (Some bytes) → number < 2 ^ 63 → machine.entry_fault bytes fault → place ≡ reached.gate + 5 + fault → FaultBehind machine area state number reached place
  not_allowed : (entry : E) → next_of reached area ≡ Ok (Some (machine.written entry)) → number < 2 ^ 63 → machine.fits entry → machine.can state entry ≡ false → place ≡ reached.gate → FaultBehind machine area state number reached place

-- the first fault of a made area: in its head, in its base, in the number that its base doesn't suit,
-- or behind entries that were read
pub data FirstFault {M E : Type 0} (machine : Ghosts M E) (area : List ℕ) (place : ℕ) : Type 0 where
  in_head : is_made area ≡ true → head_of machine.KIND area ≡ Err place → FirstFault machine area place
  in_base : (head : Head) (fault : ℕ) → is_made area ≡ true → head_of machine.KIND area ≡ Ok head → machine.record_fault head.base fault → place ≡ 30 + fault → FirstFault machine area place
  in_number : (head : Head) (base : M) → is_made area ≡ true → head_of machine.KIND area ≡ Ok head → machine.is_canonical base → machine.saved base ≡ head.base → machine.suits base head.first ≡ false → place ≡ 18 → FirstFault machine area place
  in_entry : (head : Head) (base : M) (trail : List E) (reached : Reached) → is_made area ≡ true → head_of machine.KIND area ≡ Ok head → ReadsTo machine area head base trail reached
      → FaultBehind machine area (after machine (machine.numbered base head.first) trail) (head.first + length trail) reached place → FirstFault machine area place

-- the first fault of two areas: none counts, or it stands in the one that counts
pub data FirstFaultIn {M E : Type 0} (machine : Ghosts M E) (images : Images) (index place : ℕ) : Type 0 where
  in_none : NoneCounts machine.KIND images index place → FirstFaultIn machine images index place
  in_current : IsCurrent machine.KIND index images → FirstFault machine (area_of index images) place → FirstFaultIn machine images index place

-- the fault is that neither area is made, or the first one, or of the outside
abbrev pub IsFaultOf : {M E : Type 0} → Ghosts M E → Images → StoreFault → Type 0
IsFaultOf machine images NotMade = NoneMade images
IsFaultOf machine images Device = Unit {0}
IsFaultOf machine images (Malformed index place) = FirstFaultIn machine images index place
IsFaultOf machine images Memory = Unit {0}

-- the fault isn't one of the bytes
abbrev pub IsOutside : StoreFault → Type 0
IsOutside NotMade = ⊥
IsOutside Device = Unit {0}
IsOutside (Malformed area place) = ⊥
IsOutside Memory = Unit {0}

-- the fault is one of the disk
abbrev pub IfDevice : StoreFault → Type 0 → Type 0
IfDevice NotMade holds = Unit {0}
IfDevice Device holds = holds
IfDevice (Malformed area place) holds = Unit {0}
IfDevice Memory holds = Unit {0}

abbrev pub OnDevice : {T : Type 0} → Result T StoreFault → Type 0 → Type 0
OnDevice (Ok value) holds = Unit {0}
OnDevice (Err fault) holds = IfDevice fault holds

-- the sync is the one device call; where memory is wanted it may not be made
abbrev pub SyncsOnce : {T : Type 0} → Result T StoreFault → ℕ → ℕ → Type 0
SyncsOnce (Ok value) before now = now ≡ before + 1
SyncsOnce (Err NotMade) before now = now ≡ before + 1
SyncsOnce (Err Device) before now = now ≡ before + 1
SyncsOnce (Err (Malformed area place)) before now = now ≡ before + 1
SyncsOnce (Err Memory) before now = (before ≤ now) × (now ≤ before + 1)

-- the disk fails where the sync was due to fail, or where a read may fail later, and nowhere else
abbrev pub FailsWhereDue : {T : Type 0} → Result T StoreFault → Type 0 → Type 0 → Type 0
FailsWhereDue (Ok value) due later = due → ⊥
FailsWhereDue (Err NotMade) due later = due → ⊥
FailsWhereDue (Err Device) due later = due ⊎ later
FailsWhereDue (Err (Malformed area place)) due later = due → ⊥
FailsWhereDue (Err Memory) due later = Unit {0}

-- a call fails at this moment, or so much was taken that this much more would pass the limit
abbrev pub DueOrTaken : (ℕ → Type 0) → ℕ → ℕ → ℕ → Type 0
DueOrTaken due moment taken more = due moment ⊎ (2 ^ 64 ≤ taken + more)

-- what opening answers, with the cause of a refusal alone
abbrev pub answer_of : {M D E : Type 0} → Result (StoreState M D E) (OpenFault D) → Result (StoreState M D E) StoreFault
answer_of (Ok store) = Ok store
answer_of (Err fault) = Err fault.cause

-- opening is refused with this cause, unless the disk failed or memory was wanted
abbrev pub RefusesAs : {T : Type 0} → Result T StoreFault → StoreFault → Type 0
RefusesAs (Ok value) fault = ⊥
RefusesAs (Err given) fault = (given ≡ fault) ⊎ IsOutside given

-- opening finds this history in this area, unless the disk failed or memory was wanted
abbrev pub OpensAs : {M D E : Type 0} → ℕ → Head → List E → Result (StoreState M D E) (OpenFault D) → Type 0
OpensAs index head trail (Ok store) = (store.area ≡ index) × (store.head ≡ head) × (store.trail ≡ trail)
OpensAs index head trail (Err fault) = IsOutside fault.cause

-- of the disk of the store, or of the one that is handed back
abbrev pub OnDisk : {M D E : Type 0} → Result (StoreState M D E) (OpenFault D) → (D → Type 0) → Type 0
OnDisk (Ok store) holds = holds store.disk
OnDisk (Err fault) holds = holds fault.disk

-- what a crash may leave while a store is made: what it might have left, or after the first sync an
-- area that is as it was or isn't made, or the new one whole
abbrev pub WhileMade : Head → Images → (Images → Type 0) → Images → Type 0
WhileMade head seen may_leave left = may_leave left ⊎ InArea 0 (OldUnmadeOrNew head) seen left

-- making a store makes a sync, the device calls that take away what stands, and four more; or those up to
-- the one that failed
abbrev pub MakingCalls : {T : Type 0} → Result T StoreFault → List ℕ → ℕ → ℕ → Type 0
MakingCalls (Ok value) area before now = now ≡ before + clear_calls area + 5
MakingCalls (Err fault) area before now = (before ≤ now) × (now ≤ before + clear_calls area + 5)

-- they fail at the first that is due to fail, which is the last that is made; and a read among them fails only
-- where the next call is due to fail, or where too much would be taken
abbrev pub MakesWhereDue : {T : Type 0} → Result T StoreFault → ℕ → ℕ → (ℕ → Type 0) → ℕ → Type 0
MakesWhereDue (Ok value) from to due taken = NoneDue from to due
MakesWhereDue (Err NotMade) from to due taken = NoneDue from to due
MakesWhereDue (Err Device) from to due taken = OnlyLastDue from to due ⊎ (NoneDue from to due × DueOrTaken due to taken 1)
MakesWhereDue (Err (Malformed area place)) from to due taken = NoneDue from to due
MakesWhereDue (Err Memory) from to due taken = Unit {0}
