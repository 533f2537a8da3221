-- What the putting of a new base in place of a history answers and leaves.
use Rattle.std.specs.Prelude.{◌≡◌, ◌⊎◌, ℕ, ◌+◌, ◌-◌, ◌^◌, ◌≤◌, ◌==◌, Bool, true, List, [], Option, Some, Result, Ok, Err}
use Rattle.pc_base.specs.declared.machine.Machine.{Ghosts}
use Rattle.pc_base.specs.declared.store_fault.CommitFault.{CommitFault}
use Rattle.pc_base.specs.declared.store_fault.CommitFault.TheVariants.{Full, Device, Memory}
use Rattle.pc_disk.specs.Images.{Images}
use Rattle.pc_log.specs.Area.{Head}
use Rattle.pc_log.specs.Making.{NoneDue, OnlyLastDue, clear_calls}
use Rattle.pc_store.specs.Current.{OpensIn}
use Rattle.pc_store.specs.Store.{StoreState, next_number}

-- the head behind the store's, with this number of the first entry and this base
abbrev pub next_head : {M D E : Type 0} → Ghosts M E → StoreState M D E → ℕ → List ℕ → Head
next_head machine store first base = record { kind = machine.KIND; generation = store.head.generation + 1; first = first; base = base }

-- and the one that stands for the whole history: the record of the state
abbrev pub folded_head : {M D E : Type 0} → Ghosts M E → StoreState M D E → Head
folded_head machine store = next_head machine store (next_number store) (machine.saved store.state)

-- no head comes behind the store's
abbrev pub is_last : {M D E : Type 0} → StoreState M D E → Bool
is_last store = store.head.generation == 2 ^ 63 - 1

-- what becomes of the store but for its disk: it has this head and no entries, in the other area; or nothing
-- changed; or the store is broken, and the head is in doubt
abbrev pub RenewLeaves : {T M D E : Type 0} → Head → Result T CommitFault → StoreState M D E → StoreState M D E → Type 0
RenewLeaves head (Ok done) old new = new ≡ record old { disk = new.disk; area = 1 - old.area; head = head; trail = [] }
RenewLeaves head (Err Full) old new = new ≡ old
RenewLeaves head (Err Device) old new = new ≡ record old { disk = new.disk; broken = true; renewal = Some head }
RenewLeaves head (Err Memory) old new = new ≡ record old { disk = new.disk }

-- what a crash may leave meanwhile: the history, or this head with no entries in the other area
abbrev pub OpensOldOrNew : {M D E : Type 0} → Ghosts M E → StoreState M D E → Head → Images → Type 0
OpensOldOrNew machine store head images = OpensIn machine store.area store.head store.trail images ⊎ OpensIn machine (1 - store.area) head [] images

-- the device calls that take away what stands in the other area, and four more; or those up to the one that
-- failed
abbrev pub RenewCalls : {T : Type 0} → Result T CommitFault → List ℕ → ℕ → ℕ → Type 0
RenewCalls (Ok done) area before now = now ≡ before + clear_calls area + 4
RenewCalls (Err Full) area before now = now ≡ before
RenewCalls (Err Device) area before now = (before ≤ now) × (now ≤ before + clear_calls area + 4)
RenewCalls (Err Memory) area before now = now ≡ before

-- they fail at the first that is due to fail, which is the last that is made; and a read before them fails only
-- where the next call is due to fail, or where too much would be taken
abbrev pub RenewFails : {T : Type 0} → Result T CommitFault → ℕ → ℕ → (ℕ → Type 0) → ℕ → Type 0
RenewFails (Ok done) from to due taken = NoneDue from to due
RenewFails (Err Full) from to due taken = NoneDue from to due
RenewFails (Err Device) from to due taken = OnlyLastDue from to due ⊎ ((to ≡ from) × (due from ⊎ (2 ^ 64 ≤ taken + 1)))
RenewFails (Err Memory) from to due taken = NoneDue from to due
