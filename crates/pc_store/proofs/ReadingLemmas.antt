-- What reading the next entry of an area comes to.
use Rattle.std.proofs.Common.{◌≡◌, ℕ, ◌+◌, ◌^◌, ◌<◌, ◌≤◌, List, Option, Some, Ok, Err, refl, sym, ap, ◌∙◌, subst, ⊎_elim}
use Rattle.pc_base.specs.declared.machine.Machine.{Ghosts}
use Rattle.pc_log.specs.declared.fault.LogFault.{LogFault}
use Rattle.pc_log.specs.declared.fault.LogFault.TheVariants as log
use Rattle.pc_log.specs.declared.found.PlacedEntry.{PlacedEntry}
use Rattle.pc_log.specs.Reading.{OpeningState, next_of}
use Rattle.pc_log.specs.Opening.{Gives, Passes, bytes_of_next}
use Rattle.pc_base.specs.declared.store_fault.StoreFault.{StoreFault}
use Rattle.pc_base.specs.declared.store_fault.StoreFault.TheVariants.{NotMade, Device, Malformed, Memory}
use Rattle.pc_store.specs.Opening.{FaultBehind, limited}
use Rattle.pc_store.specs.Opening.FaultBehind.{cut_off, past_last, unread, not_allowed}
use Rattle.pc_store.specs.Reading.{NextIs, MakesEntry, limited_fault}

refused : {M E : Type 0} (machine : Ghosts M E) (tells : Type 0) (area : List ℕ) (old new : OpeningState) (state : M) (number gate : ℕ) (fault : LogFault)
    → gate ≡ old.reached.gate → (tells → Gives {X = Option PlacedEntry} {Y = Option (List ℕ)} bytes_of_next (Err fault) (next_of old.reached area))
    → NextIs machine tells area old new state state number (Err (limited_fault old.area number gate fault))
refused machine tells area old new state number gate log.Device at gives = tt
refused machine tells area old new state number gate (log.Malformed place) at gives = (refl, λ told. cut_off place (gives told) (ap (λ g. limited number g place) at))
refused machine tells area old new state number gate log.Memory at gives = tt

pub next_refused : {M E : Type 0} (machine : Ghosts M E) (tells : Type 0) (area : List ℕ) (old new : OpeningState) (state : M) (index number gate : ℕ) (fault : LogFault) (answer : StoreFault)
    → old.area ≡ index → gate ≡ old.reached.gate → (tells → Gives {X = Option PlacedEntry} {Y = Option (List ℕ)} bytes_of_next (Err fault) (next_of old.reached area))
    → answer ≡ limited_fault index number gate fault → NextIs machine tells area old new state state number (Err answer)
next_refused machine tells area old new state index number gate fault answer same at gives is =
    subst (λ (a : StoreFault). NextIs machine tells area old new state state number (Err a)) (sym (is ∙ ap (λ (i : ℕ). limited_fault i number gate fault) (sym same))) (refused machine tells area old new state number gate fault at gives)

-- an entry that was passed stands at the gate
passed : (old new : OpeningState) (area : List ℕ) (next : Option PlacedEntry) (entry : PlacedEntry)
    → next ≡ Some entry → Passes old new (Ok next) → entry.place ≡ old.reached.gate
passed old new area next entry is passes = (subst (λ (n : Option PlacedEntry). Passes old new (Ok n)) is passes).place

bytes_next : (tells : Type 0) (area : List ℕ) (old : OpeningState) (next : Option PlacedEntry) (entry : PlacedEntry)
    → next ≡ Some entry → (tells → next_of old.reached area ≡ Ok (bytes_of_next next)) → tells → next_of old.reached area ≡ Ok (Some entry.bytes)
bytes_next tells area old next entry is gives told = gives told ∙ ap (λ (n : Option PlacedEntry). Ok (bytes_of_next n)) is

pub next_past_last : {M E : Type 0} (machine : Ghosts M E) (tells : Type 0) (area : List ℕ) (old new : OpeningState) (state : M) (number : ℕ) (next : Option PlacedEntry) (entry : PlacedEntry)
    → next ≡ Some entry → Passes old new (Ok next) → (tells → next_of old.reached area ≡ Ok (bytes_of_next next)) → 2 ^ 63 ≤ number
    → tells → FaultBehind machine area state number old.reached entry.place
next_past_last machine tells area old new state number next entry is passes gives past told =
    past_last entry.bytes (bytes_next tells area old next entry is gives told) past (passed old new area next entry is passes)

pub next_unmade : {M E : Type 0} (machine : Ghosts M E) (tells : Type 0) (area : List ℕ) (old new : OpeningState) (state state' : M) (index number : ℕ) (next : Option PlacedEntry) (entry : PlacedEntry) (fault : StoreFault)
    → old.area ≡ index → next ≡ Some entry → Passes old new (Ok next) → (tells → next_of old.reached area ≡ Ok (bytes_of_next next)) → number < 2 ^ 63
    → MakesEntry machine index entry.bytes entry.place state state' (Err fault) → NextIs machine tells area old new state state' number (Err fault)
next_unmade machine tells area old new state state' index number next entry NotMade same is passes gives within made = absurd made
next_unmade machine tells area old new state state' index number next entry Device same is passes gives within made = absurd made
next_unmade machine tells area old new state state' index number next entry (Malformed place_area place) same is passes gives within made = (
  made.0 ∙ sym same,
  λ told.
      let one = bytes_next tells area old next entry is gives told in
      let at = passed old new area next entry is passes in
      ⊎_elim (λ bad. unread entry.bytes bad.0 one within bad.1 (bad.2 ∙ ap (λ (n : ℕ). n + 5 + bad.0) at))
      (λ not. not_allowed not.0 (one ∙ ap (λ (xs : List ℕ). Ok (Some xs)) (sym not.1)) within not.2 not.3 (not.4 ∙ at)) made.1,
)
next_unmade machine tells area old new state state' index number next entry Memory same is passes gives within made = tt
