-- What a desk holds, and what it tells of it.
use Rattle.std.specs.Prelude.{◌≡◌, ℕ, ◌≤◌, false, List, None, IsTrue}
use Rattle.std.specs.List.{AllByRecursion}
use Rattle.pc_account_history.specs.declared.entry.Entry.{Entry}
use Rattle.pc_account_history.specs.Record.{AccountRecord}
use Rattle.pc_account_history.specs.History.{History, start, ◌▸▸◌}
use Rattle.pc_account_history.specs.Legal.{IsLegal}
use Rattle.pc_account_spelling.specs.EntryForm.{entry_fits}
use Rattle.pc_account_holdings.specs.State.{State, StandsFor}
use Rattle.pc_store.specs.Store.{StoreState}
use Rattle.pc_session.specs.declared.access.Latest.{Latest}
use Rattle.pc_session.specs.Desk.{DeskState, LAST_SESSION}
use Rattle.pc_house.specs.Base.{BaseOf, base_of}
use Rattle.pc_house.specs.Sessions.{latest_in}

-- the user, the record of the base, the store, the last session number drawn, and the latest sessions
pub record DeskValue (D : Type 0) : Type 0 where
  pub user : List ℕ
  pub base : AccountRecord
  pub store : StoreState State D Entry
  pub drawn : ℕ
  pub sessions : List (List ℕ × Latest)

-- what a desk of these is
abbrev pub desk_of : {D : Type 0} (user : List ℕ) (store : StoreState State D Entry) → BaseOf store.head.base → ℕ → List (List ℕ × Latest) → DeskValue D
desk_of user store found drawn sessions = record { user = user; base = base_of found; store = store; drawn = drawn; sessions = sessions }

-- the history of a store whose base is this record
abbrev pub history_of : {D : Type 0} → AccountRecord → StoreState State D Entry → History
history_of base store = start base store.head.first ▸▸ store.trail

-- what the sessions see
abbrev pub told_by : {D : Type 0} → (D → ℕ) → DeskValue D → DeskState
told_by faults desk = record {
  history = history_of desk.base desk.store;
  doubt = desk.store.doubt;
  broken = desk.store.broken;
  state = desk.store.state;
  drawn = desk.drawn;
  latest = latest_in desk.sessions;
  faults = faults desk.store.disk;
}

-- a device call of the disk from now on is to fail, where the disk tells which do
abbrev pub FailsAhead : {D : Type 0} → Type 0 → (D → ℕ) → (D → ℕ → Type 0) → D → Type 0
FailsAhead tells_due moment due disk = tells_due → (at : ℕ) × ((moment disk ≤ at) × due disk at)

-- the same of the disk of a desk
abbrev pub DeskFails : {D : Type 0} → Type 0 → (D → ℕ) → (D → ℕ → Type 0) → DeskValue D → Type 0
DeskFails tells_due moment due desk = FailsAhead tells_due moment due desk.store.disk

-- the entry fits its fields
abbrev pub Fits : Entry → Type 0
Fits entry = IsTrue (entry_fits entry)

-- what is true of the store of a desk
pub record IsKept {D : Type 0} (base : AccountRecord) (store : StoreState State D Entry) : Type 0 where
  pub legal : IsLegal (history_of base store)
  pub fits : AllByRecursion Fits store.trail
  pub stands : store.broken ≡ false → StandsFor store.state (history_of base store)
  pub no_doubt : store.broken ≡ false → store.doubt ≡ None
  pub no_renewal : store.renewal ≡ None

-- and of a desk
pub record IsDesk {D : Type 0} (desk : DeskValue D) : Type 0 where
  pub kept : IsKept desk.base desk.store
  pub drawn : desk.drawn ≤ LAST_SESSION
