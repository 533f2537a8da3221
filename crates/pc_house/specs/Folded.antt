-- A store whose base stands for the history that it was folded from.
use Rattle.std.specs.Prelude.{◌≡◌, Ok}
use Rattle.pc_account_history.specs.declared.entry.Entry.{Entry}
use Rattle.pc_account_history.specs.Record.{AccountRecord}
use Rattle.pc_account_history.specs.History.{History, next}
use Rattle.pc_account_history.specs.Legal.{IsLegal}
use Rattle.pc_account_history.specs.Step.{record_of}
use Rattle.pc_account_holdings.specs.State.{State}
use Rattle.pc_account.specs.contracts.machine.AccountMachine.TheImpl.{ghosts as machine}
use Rattle.pc_log.specs.Area.{Head}
use Rattle.pc_store.specs.Fold.{RenewLeaves, folded_head}
use Rattle.pc_store.specs.History.{IsReplay}
use Rattle.pc_store.specs.Store.{StoreState}
use Rattle.pc_house.specs.Base.{IsSavedAs}
use Rattle.pc_house.specs.Desk.{history_of}

-- the base of a head is the record of this legal history, and its first entry is the next one behind it
pub record HasRecordOf (h : History) (head : Head) : Type 0 where
  pub legal : IsLegal h
  pub base : IsSavedAs head.base (record_of h)
  pub first : head.first ≡ next h

-- a store has replayed its history to its state
abbrev pub Replayed : {D : Type 0} → StoreState State D Entry → Type 0
Replayed store = IsReplay machine store.head store.trail store.state

-- once a store was folded, its head has the record of the history that it had
abbrev pub FoldedHasRecord : Type 0 → Type 0
FoldedHasRecord D = (old new : StoreState State D Entry) (base : AccountRecord)
    → IsSavedAs old.head.base base
    → Replayed old
    → RenewLeaves {T = Unit {0}} (folded_head machine old) (Ok tt) old new
    → Replayed new
    → HasRecordOf (history_of base old) new.head
