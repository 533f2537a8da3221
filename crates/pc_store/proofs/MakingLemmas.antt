-- The device calls of making a store.
use Rattle.std.proofs.Common.{◌≡◌, ◌⊎◌, ◌∙◌, ℕ, ◌+◌, ◌^◌, ◌<◌, ◌≤◌, List, Result, Ok, Err, ap, sym, subst, arith, inl, inr, ⊎_elim}
use Rattle.std.proofs.lemmas.Bool.{cases_lt}
use Rattle.pc_disk.specs.Outcomes.{SameDue}
use Rattle.pc_log.specs.declared.fault.LogFault.{LogFault}
use Rattle.pc_log.specs.declared.fault.LogFault.TheVariants as log
use Rattle.pc_log.specs.Making.{MakingFails, NoneDue, OnlyLastDue}
use Rattle.pc_base.specs.declared.store_fault.StoreFault.{StoreFault}
use Rattle.pc_base.specs.declared.store_fault.StoreFault.TheVariants.{NotMade, Device, Malformed, Memory}
use Rattle.pc_store.specs.Opening.{DueOrTaken, FailsWhereDue, IsOutside, MakesWhereDue, MakingCalls, SyncsOnce}
use Rattle.pc_store.specs.Reading.{of_log}

-- the sync was the last call
pub sync_calls : (T X : Type 0) (fault : StoreFault) (area : List ℕ) (before now : ℕ) → SyncsOnce {T = X} (Err fault) before now → MakingCalls {T = T} (Err fault) area before now
sync_calls T X NotMade area before now is = (omega arith, omega arith)
sync_calls T X Device area before now is = (omega arith, omega arith)
sync_calls T X (Malformed at place) area before now is = (omega arith, omega arith)
sync_calls T X Memory area before now is = (omega (arith, is.0), omega (arith, is.1))

pub sync_due : (T X Y : Type 0) (fault : StoreFault) (from to : ℕ) (due : ℕ → Type 0) (taken : ℕ) → IsOutside fault → SyncsOnce {T = X} (Err fault) from to → FailsWhereDue {T = Y} (Err fault) (due from) ⊥ → MakesWhereDue {T = T} (Err fault) from to due taken
sync_due T X Y NotMade from to due taken outside calls fails = absurd outside
sync_due T X Y Device from to due taken outside calls fails = inl (record {
  last = from;
  later = omega arith;
  ends = calls;
  fails = ⊎_elim (λ (here : due from). here) (λ none. absurd none) fails;
  none_before = λ moment low high is. absurd (omega arith);
})
sync_due T X Y (Malformed at place) from to due taken outside calls fails = absurd outside
sync_due T X Y Memory from to due taken outside calls fails = tt

-- none was due after the sync, nor was the sync
pub none_more : (from mid to : ℕ) (old new : ℕ → Type 0) → mid ≡ from + 1 → (old from → ⊥) → SameDue mid old new → NoneDue mid to new → NoneDue from to old
none_more from mid to old new at not same none moment low high is =
    ⊎_elim (λ (more : from < moment). none moment (omega (arith, at)) high ((same moment (omega (arith, at))).1 is))
    (λ (most : moment ≤ from). let here : moment ≡ from = omega arith in not (subst old here is)) (cases_lt from moment)

last_more : (from mid to : ℕ) (old new : ℕ → Type 0) → mid ≡ from + 1 → (old from → ⊥) → SameDue mid old new → OnlyLastDue mid to new → OnlyLastDue from to old
last_more from mid to old new at not same only = record {
  last = only.last;
  later = omega (arith, at, only.later);
  ends = only.ends;
  fails = (same only.last only.later).0 only.fails;
  none_before = none_more from mid only.last old new at not same only.none_before;
}

at_read : (from mid to : ℕ) (old new : ℕ → Type 0) (taken taken' : ℕ) → mid ≡ from + 1 → taken' ≡ taken → (old from → ⊥) → SameDue mid old new → (to ≡ mid) × (new mid ⊎ (2 ^ 64 ≤ taken' + 1)) → NoneDue from to old × DueOrTaken old to taken 1
at_read from mid to old new taken taken' at took not same given =
    let none : NoneDue mid to new = λ moment low high is. absurd (omega (arith, given.0)) in
    let due : DueOrTaken old mid taken 1 = ⊎_elim (λ (is : new mid). inl ((same mid (omega arith)).0 is)) (λ (much : 2 ^ 64 ≤ taken' + 1). inr (omega (arith, took))) given.1 in
    (none_more from mid to old new at not same none, subst (λ (n : ℕ). DueOrTaken old n taken 1) (sym given.0) due)

by_fault : (T X : Type 0) (index : ℕ) (fault : LogFault) (from mid to : ℕ) (old new : ℕ → Type 0) (taken taken' : ℕ) → mid ≡ from + 1 → taken' ≡ taken → (old from → ⊥) → SameDue mid old new → MakingFails {T = X} (Err fault) mid to new taken' → MakesWhereDue {T = T} (Err (of_log index fault)) from to old taken
by_fault T X index log.Device from mid to old new taken taken' at took not same given =
    ⊎_elim (λ (only : OnlyLastDue mid to new). inl (last_more from mid to old new at not same only)) (λ (read : (to ≡ mid) × (new mid ⊎ (2 ^ 64 ≤ taken' + 1))). inr (at_read from mid to old new taken taken' at took not same read)) given
by_fault T X index (log.Malformed place) from mid to old new taken taken' at took not same given = none_more from mid to old new at not same given
by_fault T X index log.Memory from mid to old new taken taken' at took not same given = tt

-- the area wasn't made, and so the store isn't
pub making_due : (T X : Type 0) (index : ℕ) (fault : LogFault) (answer : StoreFault) (from mid to : ℕ) (old new : ℕ → Type 0) (taken taken' : ℕ) → answer ≡ of_log index fault → mid ≡ from + 1 → taken' ≡ taken → (old from → ⊥) → SameDue mid old new → MakingFails {T = X} (Err fault) mid to new taken' → MakesWhereDue {T = T} (Err answer) from to old taken
making_due T X index fault answer from mid to old new taken taken' is at took not same given =
    subst (λ (a : StoreFault). MakesWhereDue {T = T} (Err a) from to old taken) (sym is) (by_fault T X index fault from mid to old new taken taken' at took not same given)
