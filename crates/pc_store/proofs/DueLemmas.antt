-- Which calls of an opening fail.
use Rattle.std.proofs.Common.{◌≡◌, ℕ, ◌+◌, ◌≤◌, Result, Ok, Err, sym, subst, arith, inl, inr, ⊎_elim}
use Rattle.pc_disk.specs.Outcomes.{SameDue}
use Rattle.pc_log.specs.declared.fault.LogFault.{LogFault}
use Rattle.pc_log.specs.declared.fault.LogFault.TheVariants as log
use Rattle.pc_log.specs.Opening as log_opening
use Rattle.pc_base.specs.declared.store_fault.StoreFault.{StoreFault}
use Rattle.pc_base.specs.declared.store_fault.StoreFault.TheVariants.{NotMade, Device, Malformed, Memory}
use Rattle.pc_store.specs.Opening.{DueOrTaken, FailsWhereDue, IfDevice, OnDevice, SyncsOnce}
use Rattle.pc_store.specs.Reading.{of_log}

-- the same calls fail over two runs
pub same_due_again : (from from' : ℕ) (old mid new : ℕ → Type 0) → from ≤ from' → SameDue from old mid → SameDue from' mid new → SameDue from' old new
same_due_again from from' old mid new later first second moment at =
    let here = first moment (omega arith) in
    let there = second moment at in
    (λ is. here.0 (there.0 is), λ is. there.1 (here.1 is))

pub if_device : (fault : StoreFault) (P Q : Type 0) → (P → Q) → IfDevice fault P → IfDevice fault Q
if_device NotMade P Q f is = tt
if_device Device P Q f is = f is
if_device (Malformed area place) P Q f is = tt
if_device Memory P Q f is = tt

by_fault : (X : Type 0) (index : ℕ) (fault : LogFault) (P Q : Type 0) → (P → Q) → log_opening.OnDevice {X = X} (Err fault) P → IfDevice (of_log index fault) Q
by_fault X index log.Device P Q f given = f given
by_fault X index (log.Malformed place) P Q f given = tt
by_fault X index log.Memory P Q f given = tt

-- a fault of the log's opening is one of the store's
pub if_log_device : (X : Type 0) (index : ℕ) (fault : LogFault) (answer : StoreFault) (P Q : Type 0) → answer ≡ of_log index fault → (P → Q) → log_opening.OnDevice {X = X} (Err fault) P → IfDevice answer Q
if_log_device X index fault answer P Q is f given = subst (λ (a : StoreFault). IfDevice a Q) (sym is) (by_fault X index fault P Q f given)

pub more_taken : (due : ℕ → Type 0) (moment taken more more' : ℕ) → more' ≤ more → DueOrTaken due moment taken more' → DueOrTaken due moment taken more
more_taken due moment taken more more' most = ⊎_elim (λ is. inl is) (λ is. inr (omega arith))

-- what is due later was due before, since nothing but reads came between
pub due_before : (old new : ℕ → Type 0) (moment moment' taken taken' more more' : ℕ) → moment' ≡ moment → SameDue moment old new → taken' + more' ≤ taken + more → DueOrTaken new moment' taken' more' → DueOrTaken old moment taken more
due_before old new moment moment' taken taken' more more' at same most =
    ⊎_elim (λ is. inl ((same moment (omega arith)).0 (subst new at is))) (λ is. inr (omega arith))

-- the sync was made, and then the disk was only read
pub once : {T : Type 0} (result : Result T StoreFault) (before now : ℕ) → now ≡ before + 1 → SyncsOnce result before now
once (Ok value) before now is = is
once (Err NotMade) before now is = is
once (Err Device) before now is = is
once (Err (Malformed area place)) before now is = is
once (Err Memory) before now is = (omega arith, omega arith)

pub not_due : {T : Type 0} (result : Result T StoreFault) (due P later : Type 0) → (due → ⊥) → (P → later) → OnDevice result P → FailsWhereDue result due later
not_due (Ok value) due P later not f is = not
not_due (Err NotMade) due P later not f is = not
not_due (Err Device) due P later not f is = inr (f is)
not_due (Err (Malformed area place)) due P later not f is = not
not_due (Err Memory) due P later not f is = tt

pub due_at_sync : (T X : Type 0) (fault : StoreFault) (due later : Type 0) → FailsWhereDue {T = T} (Err fault) due ⊥ → FailsWhereDue {T = X} (Err fault) due later
due_at_sync T X NotMade due later is = is
due_at_sync T X Device due later is = ⊎_elim (λ here. inl here) (λ none. absurd none) is
due_at_sync T X (Malformed area place) due later is = is
due_at_sync T X Memory due later is = tt
