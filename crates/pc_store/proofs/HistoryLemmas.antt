-- Histories with one entry more.
use Rattle.std.proofs.Common.{◌≡◌, ℕ, ◌+◌, true, List, [], ◌∷◌, ◌++◌, length, refl, sym, ap, ◌∙◌, arith}
use Rattle.std.specs.List.{AllByRecursion}
use Rattle.std.proofs.lemmas.List.{map-append}
use Rattle.pc_base.specs.declared.machine.Machine.{Ghosts}
use Rattle.pc_log.specs.Area.{bytes_of}
use Rattle.pc_log.specs.Reading.{Reached, behind, next_of}
use Rattle.pc_log.specs.Opening.{Reads}
use Rattle.std.proofs.Common.{Ok, Some}
use Rattle.pc_store.specs.History.{AreAllowed, after, written_of}

pub after-push : {M E : Type 0} (machine : Ghosts M E) (state : M) (trail : List E) (entry : E) → after machine state (trail ++ entry ∷ []) ≡ machine.step (after machine state trail) entry
after-push machine state [] entry = refl
after-push machine state (first ∷ trail) entry = after-push machine (machine.step state first) trail entry

pub AreAllowed-push : {M E : Type 0} (machine : Ghosts M E) (state : M) (trail : List E) (entry : E) → AreAllowed machine state trail → machine.can (after machine state trail) entry ≡ true → AreAllowed machine state (trail ++ entry ∷ [])
AreAllowed-push machine state [] entry are can = (can, tt)
AreAllowed-push machine state (first ∷ trail) entry are can = (are.0, AreAllowed-push machine (machine.step state first) trail entry are.1 can)

pub written_of-push : {M E : Type 0} (machine : Ghosts M E) (trail : List E) (entry : E) → written_of machine (trail ++ entry ∷ []) ≡ written_of machine trail ++ machine.written entry ∷ []
written_of-push machine trail entry = map-append machine.written trail (entry ∷ [])

pub all-push : {X : Type 0} (P : X → Type 0) (xs : List X) (x : X) → AllByRecursion P xs → P x → AllByRecursion P (xs ++ x ∷ [])
all-push P [] x all here = (here, tt)
all-push P (y ∷ xs) x all here = (all.0, all-push P xs x all.1 here)

pub bytes_of-push : (entries : List (List ℕ)) (entry : List ℕ) → bytes_of (entries ++ entry ∷ []) ≡ bytes_of entries + length entry
bytes_of-push [] entry = omega arith
bytes_of-push (first ∷ entries) entry = omega (arith, bytes_of-push entries entry)

pub Reads-push : (area : List ℕ) (from to : Reached) (entries : List (List ℕ)) (entry : List ℕ) → Reads area from entries to → next_of to area ≡ Ok (Some entry) → Reads area from (entries ++ entry ∷ []) (behind (length entry) to)
Reads-push area from to [] entry reads next = (ap (λ (r : Reached). next_of r area) (sym reads) ∙ next, ap (behind (length entry)) reads)
Reads-push area from to (first ∷ entries) entry reads next = (reads.0, Reads-push area (behind (length first) from) to entries entry reads.1 next)
