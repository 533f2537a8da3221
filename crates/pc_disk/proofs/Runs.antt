-- How a run of calls goes on, as to what a crash at each of its moments leaves.
use Rattle.std.proofs.Common.{◌≡◌, ◌∙◌, ◌+◌, ◌≤◌, ap, inl, inr, ⊎_elim, ℕ, arith}
use Rattle.pc_disk.specs.Images.{Images}
use Rattle.pc_disk.specs.Outcomes.{Elapses, LeavesFirst, LeavesOnly}
use Rattle.pc_disk.specs.Outcomes.LeavesFirst.{ended, went_on}

module _ {D : Type 0} (moment : D → ℕ) (left_since : D → ℕ → Images → Type 0) where
  -- before the first call
  pub started : (old : D) (P : Images → Type 0) → ((left : Images) → left_since old (moment old) left → P left) → LeavesOnly moment left_since old old P
  started old P here = record { later = omega arith; each = here; before = λ earlier left le since. inl since }

  -- one call of the device more, after which a crash leaves what has the property
  pub goes_on : (old mid new : D) (P may_leave : Images → Type 0) → LeavesOnly moment left_since old mid P → moment new ≡ moment mid + 1
      → Elapses (moment mid) (left_since mid) (left_since new) may_leave → ((left : Images) → may_leave left → P left) → LeavesOnly moment left_since old new P
  goes_on old mid new P may_leave run next time here = record {
    later = omega (arith, run.later, next);
    each = λ left since. ⊎_elim (run.each left) (here left) (time.nothing_else (moment old) left run.later since);
    before = λ earlier left le since.
        ⊎_elim (run.before earlier left le) (λ now. inr (here left now)) (time.nothing_else earlier left (omega (arith, le, run.later)) since);
  }

  -- one call more that is none of the device
  pub stays : (old mid new : D) (P : Images → Type 0) → LeavesOnly moment left_since old mid P → moment new ≡ moment mid
      → ((earlier : ℕ) (left : Images) → left_since new earlier left → left_since mid earlier left) → LeavesOnly moment left_since old new P
  stays old mid new P run same still = record {
    later = omega (arith, run.later, same);
    each = λ left since. run.each left (still (moment old) left since);
    before = λ earlier left le since. run.before earlier left le (still earlier left since);
  }

  -- one run after another
  pub followed : (old mid new : D) (P : Images → Type 0) → LeavesOnly moment left_since old mid P → LeavesOnly moment left_since mid new P → LeavesOnly moment left_since old new P
  followed old mid new P first second = record {
    later = omega (arith, first.later, second.later);
    each = λ left since. ⊎_elim (first.each left) (λ has. has) (second.before (moment old) left first.later since);
    before = λ earlier left le since.
        ⊎_elim (first.before earlier left le) (λ has. inr has) (second.before earlier left (omega (arith, le, first.later)) since);
  }

  -- a property that follows
  pub weakened : (old new : D) (P Q : Images → Type 0) → ((left : Images) → P left → Q left) → LeavesOnly moment left_since old new P → LeavesOnly moment left_since old new Q
  weakened old new P Q follows run = record {
    later = run.later;
    each = λ left since. follows left (run.each left since);
    before = λ earlier left le since. ⊎_elim (λ past. inl past) (λ has. inr (follows left has)) (run.before earlier left le since);
  }

  -- a run that ended with its first calls
  pub first_alone : (calls : ℕ) (old new : D) (P Q : Images → Type 0) → LeavesFirst moment left_since calls old new P Q → moment new ≤ moment old + calls → LeavesOnly moment left_since old new P
  first_alone calls old new P Q (ended few run) most = run
  first_alone calls old new P Q (went_on mid at less first second) most = absurd (omega (arith, at, less, most))

  -- what the first calls of a run and the others leave, where the second property follows from the first
  pub first_or_later : (calls : ℕ) (old new : D) (P Q : Images → Type 0) → ((left : Images) → P left → Q left) → LeavesFirst moment left_since calls old new P Q → LeavesOnly moment left_since old new Q
  first_or_later calls old new P Q follows (ended few run) = weakened old new P Q follows run
  first_or_later calls old new P Q follows (went_on mid at less first second) = followed old mid new Q (weakened old mid P Q follows first) second

  -- properties that follow, for a run that began with no device call
  pub first_weakened : (calls : ℕ) (old mid new : D) (P P' Q Q' : Images → Type 0) → LeavesOnly moment left_since old mid P' → moment mid ≡ moment old → ((left : Images) → P left → P' left) → ((left : Images) → Q left → Q' left)
      → LeavesFirst moment left_since calls mid new P Q → LeavesFirst moment left_since calls old new P' Q'
  first_weakened calls old mid new P P' Q Q' begun same first later (ended few run) =
      ended (omega (arith, same, few)) (followed old mid new P' begun (weakened mid new P P' first run))
  first_weakened calls old mid new P P' Q Q' begun same first later (went_on step at less run rest) =
      went_on step (at ∙ ap (λ (n : ℕ). n + calls) same) less (followed old mid step P' begun (weakened mid step P P' first run)) (weakened step new Q Q' later rest)
