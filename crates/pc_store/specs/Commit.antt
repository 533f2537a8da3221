-- What a commit answers and leaves.
use Rattle.std.specs.Prelude.{◌≡◌, ◌⊎◌, ℕ, ◌+◌, ◌^◌, ◌<◌, ◌≤◌, ◌||◌, nat_le, nat_lt, if◌then◌else◌, Bool, true, false, List, [], ◌∷◌, ◌++◌, length, Option, None, Some, Result, Ok, Err}
use Rattle.pc_base.specs.declared.machine.Machine.{Ghosts}
use Rattle.pc_log.specs.Area.{Head}
use Rattle.pc_base.specs.declared.store_fault.CommitFault.{CommitFault}
use Rattle.pc_base.specs.declared.store_fault.CommitFault.TheVariants.{Full, Device, Memory}
use Rattle.pc_store.specs.History.{StandsFor}
use Rattle.pc_store.specs.Store.{StoreState, next_number, trail_bytes}

-- with an entry of so many bytes the store would pass a limit
abbrev pub is_full : {M D E : Type 0} → Ghosts M E → StoreState M D E → ℕ → Bool
is_full machine store count = nat_le 65536 (length store.trail) || nat_lt 16777216 (trail_bytes machine store.trail + count) || nat_le (2 ^ 63) (next_number store)

-- what becomes of the store but for its disk: the entry is made, and none is in doubt; or nothing
-- changed; or the store is broken, and then no history has changed
abbrev pub CommitLeaves : {M D E : Type 0} → Ghosts M E → E → Result ℕ CommitFault → StoreState M D E → StoreState M D E → Type 0
CommitLeaves machine entry (Ok number) old new = (number ≡ next_number old) × (new ≡ record old { disk = new.disk; trail = old.trail ++ entry ∷ []; state = machine.step old.state entry }) × (new.doubt ≡ None)
CommitLeaves machine entry (Err Full) old new = new ≡ old
CommitLeaves machine entry (Err Device) old new = new ≡ record old { disk = new.disk; state = new.state; broken = true; doubt = new.doubt }
CommitLeaves machine entry (Err Memory) old new = (new ≡ record old { disk = new.disk; state = new.state; broken = new.broken }) × (new.broken ≡ false → new.state ≡ old.state)

-- how many device calls were made, and which of them failed: the last, and none before it
abbrev pub CommitCalls : {T : Type 0} → Result T CommitFault → ℕ → ℕ → Type 0
CommitCalls (Ok value) before now = now ≡ before + 4
CommitCalls (Err Full) before now = now ≡ before
CommitCalls (Err Device) before now = (before + 1 ≤ now) × (now ≤ before + 4)
CommitCalls (Err Memory) before now = now ≡ before

abbrev pub CommitFailsWhereDue : {T : Type 0} → Result T CommitFault → ℕ → ℕ → (ℕ → Type 0) → Type 0
CommitFailsWhereDue (Ok value) before now due = (k : ℕ) → k < 4 → due (before + k) → ⊥
CommitFailsWhereDue (Err Full) before now due = Unit {0}
CommitFailsWhereDue (Err Device) before now due = (last : ℕ) × (now ≡ before + last + 1) × due (before + last) × ((k : ℕ) → k < last → due (before + k) → ⊥)
CommitFailsWhereDue (Err Memory) before now due = Unit {0}

-- the entry is in doubt where the third or the fourth call failed
abbrev pub doubt_after : {E : Type 0} → E → ℕ → Option E
doubt_after entry calls = if nat_le 3 calls then Some entry else None

-- what a crash may leave of the store's area: the history, or the history with the entry
abbrev pub StandsWithOrWithout : {M E : Type 0} → Ghosts M E → Head → List E → E → List ℕ → List ℕ → Type 0
StandsWithOrWithout machine head trail entry old new = StandsFor machine head trail new ⊎ StandsFor machine head (trail ++ entry ∷ []) new

-- and before the third call, the history
abbrev pub StandsWithout : {M E : Type 0} → Ghosts M E → Head → List E → List ℕ → List ℕ → Type 0
StandsWithout machine head trail old new = StandsFor machine head trail new
