-- Making an area over what stands there.
use Rattle.std.specs.Prelude.{◌≡◌, ◌⊎◌, ℕ, ◌+◌, ◌^◌, ◌<◌, ◌≤◌, ◌==◌, if◌then◌else◌, false, List, [], ◌∷◌, Result, Ok, Err}
use Rattle.pc_log.specs.declared.fault.LogFault.{LogFault}
use Rattle.pc_log.specs.declared.fault.LogFault.TheVariants.{Device, Malformed, Memory}
use Rattle.pc_log.specs.Area.{Head, fresh, is_made}

-- what a crash may leave while the old area is taken away: as it was, or one that isn't made
abbrev pub OldOrUnmade : List ℕ → List ℕ → Type 0
OldOrUnmade old new = (new ≡ old) ⊎ (is_made new ≡ false)

-- and while these bytes are put behind its gate: one that isn't made, or the new one whole
abbrev pub UnmadeOrNew : List ℕ → List ℕ → List ℕ → Type 0
UnmadeOrNew bytes old new = (is_made new ≡ false) ⊎ (new ≡ 1 ∷ bytes)

-- both one after the other: as it was, or one that isn't made, or the new one whole
abbrev pub OldUnmadeOrNew : Head → List ℕ → List ℕ → Type 0
OldUnmadeOrNew head old new = OldOrUnmade old new ⊎ (new ≡ fresh head)

-- how many device calls take away what stands: an empty area is closed, a closed one is cut, an open
-- one is closed and cut, and each of these is synced
abbrev pub clear_calls : List ℕ → ℕ
clear_calls [] = 2
clear_calls (gate ∷ rest) = if gate == 1 then 4 else 2

-- none of the device calls from one moment to another is due to fail
abbrev pub NoneDue : ℕ → ℕ → (ℕ → Type 0) → Type 0
NoneDue from to due = (moment : ℕ) → from ≤ moment → moment < to → due moment → ⊥

-- the last of them is due to fail, and none before it
pub record OnlyLastDue (from to : ℕ) (due : ℕ → Type 0) : Type 0 where
  pub last : ℕ
  pub later : from ≤ last
  pub ends : to ≡ last + 1
  pub fails : due last
  pub none_before : NoneDue from last due

-- calls fail at the first that is due to fail, which is the last that is made, and nowhere else
abbrev pub FailsAtLast : {T E : Type 0} → Result T E → ℕ → ℕ → (ℕ → Type 0) → Type 0
FailsAtLast (Ok value) from to due = NoneDue from to due
FailsAtLast (Err fault) from to due = OnlyLastDue from to due

-- so does making an area. Before its first call it reads a byte, which fails only where that call is due to
-- fail, or where too much would be taken
abbrev pub MakingFails : {T : Type 0} → Result T LogFault → ℕ → ℕ → (ℕ → Type 0) → ℕ → Type 0
MakingFails (Ok value) from to due taken = NoneDue from to due
MakingFails (Err Device) from to due taken = OnlyLastDue from to due ⊎ ((to ≡ from) × (due from ⊎ (2 ^ 64 ≤ taken + 1)))
MakingFails (Err (Malformed place)) from to due taken = NoneDue from to due
MakingFails (Err Memory) from to due taken = NoneDue from to due
