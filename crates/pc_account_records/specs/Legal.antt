-- What a store relies on of the state of an account.
use Rattle.std.specs.Prelude.{Bool, IsTrue, ◌&&◌}
use Rattle.pc_account_history.specs.declared.entry.Entry.{Entry}
use Rattle.pc_account_history.specs.Legal.{IsCanonical}
use Rattle.pc_account_spelling.specs.EntryForm.{entry_fits}
use Rattle.pc_account_spelling.specs.RecordForm.{fits_record, CanBeSaved}
use Rattle.pc_account_holdings.specs.State.{State, said, may_follow}

-- what is held is canonical before the next entry, and fits its fields
pub record IsLegalState (state : State) : Type 0 where
  pub canonical : IsCanonical state.held state.next
  pub fits : IsTrue (fits_record state.held)

-- what is held can be saved, whatever the number of the next entry
abbrev pub IsCanonicalState : State → Type 0
IsCanonicalState state = CanBeSaved state.held

-- the entry may come next, and fits its fields
abbrev pub accepts : State → Entry → Bool
accepts state entry = may_follow (said state) entry && entry_fits entry
