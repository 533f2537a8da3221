-- An account before its next entry, and the histories that it stands for.
use Rattle.std.specs.Prelude.{◌≡◌, ℕ, suc, Bool, ◌&&◌, is_none}
use Rattle.pc_account_history.specs.declared.entry.Entry.{Entry}
use Rattle.pc_account_history.specs.Record.{AccountRecord, empty_record}
use Rattle.pc_account_history.specs.Known.{Known, said_by}
use Rattle.pc_account_history.specs.History.{History, next}
use Rattle.pc_account_history.specs.Allowed.{is_allowed}
use Rattle.pc_account_history.specs.Limits.{limit_passed}
use Rattle.pc_account_history.specs.Legal.{IsLegal}
use Rattle.pc_account_history.specs.Step.{after, record_of}

-- what an account holds, and the number of its next entry
pub record State : Type 0 where
  pub held : AccountRecord
  pub next : ℕ

-- the state of a new account
abbrev pub new_state : State
new_state = record { held = empty_record; next = 1 }

-- what is known of the account
abbrev pub said : State → Known
said state = said_by state.held state.next

-- the state is that of the account at the end of a legal history
pub record StandsFor (state : State) (history : History) : Type 0 where
  pub legal : IsLegal history
  pub held : record_of history ≡ state.held
  pub next : next history ≡ state.next

-- the entry may come next: it is allowed and passes no limit
abbrev pub may_follow : Known → Entry → Bool
may_follow known entry = is_allowed known entry && is_none (limit_passed known entry)

-- the state with what an entry makes of what is held; the entry isn't counted yet
abbrev pub entered : State → Entry → State
entered state entry = record state { held = after state.held state.next entry }

-- the state after an entry
abbrev pub step : State → Entry → State
step state entry = record { held = after state.held state.next entry; next = suc state.next }
