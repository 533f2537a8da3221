-- What a crash may leave, now or since a moment, and how calls change that.
use Rattle.std.specs.Prelude.{◌≡◌, ◌⊎◌, ◌↔◌, ℕ, ◌+◌, ◌<◌, ◌≤◌}
use Rattle.pc_disk.specs.Images.{Images}

-- a crash leaves this and nothing else
abbrev pub Only : Images → (Images → Type 0) → Type 0
Only images outcomes = (left : Images) → outcomes left → left ≡ images

-- each new outcome is an old one after a step
abbrev pub Follows : (Images → Images → Type 0) → (Images → Type 0) → (Images → Type 0) → Type 0
Follows step old new = (left : Images) → new left → (before : Images) × old before × step before left

-- each new outcome is an old one
abbrev pub Keeps : (Images → Type 0) → (Images → Type 0) → Type 0
Keeps old new = (left : Images) → new left → old left

-- a call of the device passed: a crash since a moment might have left what it might have left
-- before the call, or what it may leave now
pub record Elapses (before : ℕ) (past since : ℕ → Images → Type 0) (may_leave : Images → Type 0) : Type 0 where
  pub nothing_else : (moment : ℕ) (left : Images) → moment ≤ before → since moment left → past moment left ⊎ may_leave left
  pub keeps : (moment : ℕ) (left : Images) → moment ≤ before → past moment left → since moment left

-- no call of the device passed: what is read and what a crash leaves are as they were
pub record IsStill (seen_before seen_now : Images) (left_before left_now : Images → Type 0) (past since : ℕ → Images → Type 0) : Type 0 where
  pub seen : seen_now ≡ seen_before
  pub leaves : Keeps left_before left_now
  pub left : Keeps left_now left_before
  pub nothing_else : (moment : ℕ) → Keeps (past moment) (since moment)
  pub keeps : (moment : ℕ) → Keeps (since moment) (past moment)

-- from a moment on the same calls fail
abbrev pub SameDue : ℕ → (ℕ → Type 0) → (ℕ → Type 0) → Type 0
SameDue from before now = (moment : ℕ) → from ≤ moment → now moment ↔ before moment

-- at each moment of a run from an old state to a new one, a crash leaves images with a property
pub record LeavesOnly {D : Type 0} (moment : D → ℕ) (left_since : D → ℕ → Images → Type 0) (old new : D) (P : Images → Type 0) : Type 0 where
  pub later : moment old ≤ moment new
  pub each : (left : Images) → left_since new (moment old) left → P left
  -- for a run that began earlier
  pub before : (earlier : ℕ) (left : Images) → earlier ≤ moment old → left_since new earlier left → left_since old earlier left ⊎ P left

-- the first device calls of a run, so many of them, leave images with one property, and those behind them
-- images with another: the run ended with the first calls, or a disk in the middle had made just these
pub data LeavesFirst {D : Type 0} (moment : D → ℕ) (left_since : D → ℕ → Images → Type 0) (calls : ℕ)
    (old new : D) (P Q : Images → Type 0) : Type 0 where
  ended : moment new ≤ moment old + calls → LeavesOnly moment left_since old new P
      → LeavesFirst moment left_since calls old new P Q
  went_on : (mid : D) → moment mid ≡ moment old + calls → moment mid < moment new
      → LeavesOnly moment left_since old mid P → LeavesOnly moment left_since mid new Q
      → LeavesFirst moment left_since calls old new P Q
