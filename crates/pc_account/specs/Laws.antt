-- What a store relies on of every account.
use Rattle.std.specs.Prelude.{◌≡◌, ℕ, ◌^◌, ◌<◌, ◌≤◌, true, length}
use Rattle.pc_account_history.specs.declared.entry.Entry.{Entry}
use Rattle.pc_account_spelling.specs.Spelling.{spelled_entry, spelled_record}
use Rattle.pc_account_spelling.specs.RecordForm.{IsRecordFault}
use Rattle.pc_account_holdings.specs.State.{State, new_state, step}
use Rattle.pc_account_records.specs.Legal.{IsLegalState, IsCanonicalState, accepts}
use Rattle.pc_account_records.specs.Numbered.{suits, numbered}

-- a state that got a number that suits it is legal
abbrev pub NumberedIsLegal : Type 0
NumberedIsLegal = (state : State) (first : ℕ) → IsCanonicalState state → suits state first ≡ true → IsLegalState (numbered state first)

-- a legal state can be saved, in at most 1,073,741,824 bytes, which have no fault
abbrev pub LegalIsSaved : Type 0
LegalIsSaved = (state : State) → IsLegalState state → IsCanonicalState state × (length (spelled_record state.held) ≤ 1073741824) × ((place : ℕ) → IsRecordFault (spelled_record state.held) place → ⊥)

-- what is loaded from the bytes of a legal state is the state, once it has its number
abbrev pub OneState : Type 0
OneState = (state loaded : State) (number : ℕ) → IsLegalState state → state.next ≡ number → IsCanonicalState loaded → spelled_record loaded.held ≡ spelled_record state.held → (suits loaded number ≡ true) × (numbered loaded number ≡ state)

-- the state of no history can be saved, and suits each number
abbrev pub BeginSuits : Type 0
BeginSuits = IsCanonicalState new_state × ((first : ℕ) → 0 < first → suits new_state first ≡ true)

-- an entry leads from a legal state to a legal state
abbrev pub StepIsLegal : Type 0
StepIsLegal = (state : State) (entry : Entry) → IsLegalState state → accepts state entry ≡ true → state.next < 2 ^ 63 → IsLegalState (step state entry)

-- an entry that may come next is short enough for a store
abbrev pub AcceptedIsShort : Type 0
AcceptedIsShort = (state : State) (entry : Entry) → IsLegalState state → accepts state entry ≡ true → (1 ≤ length (spelled_entry entry)) × (length (spelled_entry entry) ≤ 8388608)
