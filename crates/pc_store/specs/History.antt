-- Histories of a machine: the record of a base, and the entries since.
use Rattle.std.specs.Prelude.{◌≡◌, ℕ, ◌+◌, ◌^◌, ◌≤◌, true, List, [], ◌∷◌, length, map}
use Rattle.pc_base.specs.declared.machine.Machine.{Ghosts}
use Rattle.pc_log.specs.Area.{Head}
use Rattle.pc_log.specs.Opening.{IsAreaOf}

-- the state after these entries
abbrev pub after : {M E : Type 0} → Ghosts M E → M → List E → M
after machine state [] = state
after machine state (entry ∷ entries) = after machine (machine.step state entry) entries

-- each entry is allowed where it comes
abbrev pub AreAllowed : {M E : Type 0} → Ghosts M E → M → List E → Type 0
AreAllowed machine state [] = Unit {0}
AreAllowed machine state (entry ∷ entries) = (machine.can state entry ≡ true) × AreAllowed machine (machine.step state entry) entries

-- the entries as they are written
abbrev pub written_of : {M E : Type 0} → Ghosts M E → List E → List (List ℕ)
written_of machine entries = map machine.written entries

-- the base of a head is the record of this state, which suits the number of the first entry
pub record IsBase {M E : Type 0} (machine : Ghosts M E) (head : Head) (base : M) : Type 0 where
  pub canonical : machine.is_canonical base
  pub saved : machine.saved base ≡ head.base
  pub suits : machine.suits base head.first ≡ true

-- a base and entries that are allowed, each at its number, lead to this state
pub record IsHistory {M E : Type 0} (machine : Ghosts M E) (head : Head) (trail : List E) (state : M) : Type 0 where
  pub base : M
  pub is_base : IsBase machine head base
  pub allowed : AreAllowed machine (machine.numbered base head.first) trail
  pub leads : state ≡ after machine (machine.numbered base head.first) trail
  pub numbers : head.first + length trail ≤ 2 ^ 63

-- the history leads to this state, and to no other
pub record IsReplay {M E : Type 0} (machine : Ghosts M E) (head : Head) (trail : List E) (state : M) : Type 0 where
  pub history : IsHistory machine head trail state
  pub only : (other : M) → IsHistory machine head trail other → other ≡ state

-- an area holds this history and no other
pub record StandsFor {M E : Type 0} (machine : Ghosts M E) (head : Head) (trail : List E) (area : List ℕ) : Type 0 where
  pub state : M
  pub history : IsHistory machine head trail state
  pub area_of : IsAreaOf machine.KIND head (written_of machine trail) area
