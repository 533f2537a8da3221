-- What a desk tells of a user's account, and what its calls leave.
use Rattle.std.specs.Prelude.{◌≡◌, ◌⊎◌, ℕ, suc, ◌+◌, ◌-◌, ◌^◌, ◌<◌, ◌==◌, min, Bool, true, false, ◌&&◌, nat_lt, nat_le, List, length, Option, None, Some, MatchOption, Result, Ok, Err, if◌then◌else◌}
use Rattle.std.specs.Option.{option_map}
use Rattle.pc_base.specs.Stream.{Rose}
use Rattle.pc_base.specs.declared.room.Room.{Room}
use Rattle.pc_account_history.specs.declared.entry.Entry.{Entry}
use Rattle.pc_account_history.specs.declared.entry.Entry.TheVariants.{DropClient, MakeMailbox}
use Rattle.pc_tables.specs.Table.{same}
use Rattle.pc_account_history.specs.History.{History, start, ◌▸◌, next}
use Rattle.pc_account_spelling.specs.Spelling.{spelled_entry}
use Rattle.pc_account_holdings.specs.State.{State}
use Rattle.pc_base.specs.declared.store_fault.CommitFault.{CommitFault}
use Rattle.pc_base.specs.declared.store_fault.CommitFault.TheVariants as commit
use Rattle.pc_base.specs.declared.store_fault.StoreFault.{StoreFault}
use Rattle.pc_base.specs.declared.store_fault.StoreFault.TheVariants as store
use Rattle.pc_session.specs.declared.access.Latest.{Latest}
use Rattle.pc_session.specs.declared.state.Who.{Who}
use Rattle.pc_session.specs.declared.state.Who.TheVariants.{Nobody, Console, Client}
use Rattle.pc_session.specs.declared.access.TakeFault.{TakeFault}
use Rattle.pc_session.specs.declared.access.TakeFault.TheVariants as taking

-- ---- a journal

-- how many entries a history has behind its base, and how many bytes they have as they are written
abbrev pub trail_count : History → ℕ
trail_count (start base number) = 0
trail_count (h ▸ e) = suc (trail_count h)

abbrev pub trail_bytes : History → ℕ
trail_bytes (start base number) = 0
trail_bytes (h ▸ e) = trail_bytes h + length (spelled_entry e)

-- how much the journal still takes: 65,536 entries and 16 MiB behind the base, and numbers below 2^63
abbrev pub room_of : History → Room
room_of h = record { entries = min (65536 - trail_count h) (2 ^ 63 - next h); bytes = 16777216 - trail_bytes h }

-- it takes the entry
abbrev pub has_room : History → Entry → Bool
has_room h e = nat_lt 0 (room_of h).entries && nat_le (length (spelled_entry e)) (room_of h).bytes

-- the entry of this number behind the base
abbrev pub entry_at : History → ℕ → Option Entry
entry_at (start base number) at = None
entry_at (h ▸ e) at = if at == next h then Some e else entry_at h at

-- ---- the latest sessions of clients

-- a client that an entry takes away has no latest session; others have what they had
abbrev pub latest_after : Entry → (List ℕ → Option Latest) → List ℕ → Option Latest
latest_after (DropClient client) latest other = if same client other then None else latest other
latest_after (MakeMailbox mailbox) latest other = latest other
latest_after _ latest other = latest other

-- a client has a new latest session
abbrev pub latest_with : List ℕ → Latest → (List ℕ → Option Latest) → List ℕ → Option Latest
latest_with client session latest other = if same client other then Some session else latest other

-- the session of this number has ended: where it is its client's latest, that isn't live
abbrev pub ended_if : ℕ → Latest → Latest
ended_if number session = if session.number == number then record session { live = false } else session

abbrev pub latest_without : List ℕ → ℕ → (List ℕ → Option Latest) → List ℕ → Option Latest
latest_without client number latest other = if same client other then option_map (ended_if number) (latest other) else latest other

-- ---- a desk

pub record DeskState : Type 0 where
  -- the history of the account, the entry in doubt apart
  pub history : History
  -- the entry of a commit that the disk failed, which may come back when the store is opened again
  pub doubt : Option Entry
  -- the store is to be opened again before its account is used
  pub broken : Bool
  -- the account's state; where the store isn't broken, it stands for the history
  pub state : State
  -- the last session number drawn since the desk was made, 0 before the first
  pub drawn : ℕ
  -- the latest session of a client: the one drawn for it last, since the client was last taken away
  pub latest : List ℕ → Option Latest
  -- the count of faults of the disk
  pub faults : ℕ

-- every client has the latest session that is said
abbrev pub Are : (List ℕ → Option Latest) → (List ℕ → Option Latest) → Type 0
Are now said = (client : List ℕ) → now client ≡ said client

-- nothing has changed but the count of faults
pub record Same (old new : DeskState) : Type 0 where
  pub history : new.history ≡ old.history
  pub doubt : new.doubt ≡ old.doubt
  pub broken : new.broken ≡ old.broken
  pub state : new.state ≡ old.state
  pub drawn : new.drawn ≡ old.drawn
  pub latest : Are new.latest old.latest

-- no history has changed and nothing is in doubt, but the store may be broken; the sessions are as they were
pub record SameHistory (old new : DeskState) : Type 0 where
  pub history : new.history ≡ old.history
  pub doubt : new.doubt ≡ None
  pub whole : new.broken ≡ false → new.state ≡ old.state
  pub drawn : new.drawn ≡ old.drawn
  pub latest : Are new.latest old.latest

-- the entry was made
pub record Made (entry : Entry) (old new : DeskState) : Type 0 where
  pub history : new.history ≡ (old.history ▸ entry)
  pub doubt : new.doubt ≡ None
  pub broken : new.broken ≡ false
  pub drawn : new.drawn ≡ old.drawn
  pub latest : Are new.latest (latest_after entry old.latest)

-- the disk failed in the commit of the entry, which may be in doubt; the store is broken
pub record Failed (entry : Entry) (old new : DeskState) : Type 0 where
  pub history : new.history ≡ old.history
  pub doubt : (new.doubt ≡ None) ⊎ (new.doubt ≡ Some entry)
  pub broken : new.broken ≡ true
  pub drawn : new.drawn ≡ old.drawn
  pub latest : Are new.latest old.latest
  pub rose : Rose old.faults new.faults

-- a commit of an entry: its number; or there is exactly no room; or the disk failed; or memory was wanted
abbrev pub Commits : Entry → DeskState → Result ℕ CommitFault → DeskState → Type 0
Commits entry old (Ok number) new = (has_room old.history entry ≡ true) × (number ≡ next old.history) × Made entry old new
Commits entry old (Err commit.Full) new = (has_room old.history entry ≡ false) × Same old new
Commits entry old (Err commit.Device) new = (has_room old.history entry ≡ true) × Failed entry old new
Commits entry old (Err commit.Memory) new = SameHistory old new

-- what is found when the store is opened again: the history, or the history with the entry in doubt, which then leaves
-- the latest sessions as it does
abbrev pub Resolved : DeskState → DeskState → Type 0
Resolved old new = ((new.history ≡ old.history) × Are new.latest old.latest) ⊎ MatchOption old.doubt ⊥ (λ entry. (new.history ≡ (old.history ▸ entry)) × Are new.latest (latest_after entry old.latest))

-- the store was opened again. Where the disk tells its bytes, its history is the old one or has the entry in doubt
pub record Opened (tells : Type 0) (old new : DeskState) : Type 0 where
  pub doubt : new.doubt ≡ None
  pub broken : new.broken ≡ false
  pub drawn : new.drawn ≡ old.drawn
  pub resolved : tells → Resolved old new
  -- and else a client may at most have lost its latest session by the entry in doubt
  pub latest : Are new.latest old.latest ⊎ MatchOption old.doubt ⊥ (λ entry. Are new.latest (latest_after entry old.latest))

-- opening a store again: it is open; or it stays as it was, and a disk that tells its bytes just failed, or memory was wanted
abbrev pub Opens : Type 0 → DeskState → Result Unit StoreFault → DeskState → Type 0
Opens tells old (Ok done) new = Opened tells old new
Opens tells old (Err store.Device) new = Same old new × Rose old.faults new.faults
Opens tells old (Err store.Memory) new = Same old new
Opens tells old (Err store.NotMade) new = Same old new × (tells → ⊥)
Opens tells old (Err (store.Malformed area place)) new = Same old new × (tells → ⊥)

-- a number is drawn for a client, whose latest session it then has; or all numbers are drawn; or memory was wanted
pub record Drawn (client : List ℕ) (batch : Bool) (old new : DeskState) : Type 0 where
  pub drawn : new.drawn ≡ suc old.drawn
  pub latest : Are new.latest (latest_with client (record { number = suc old.drawn; live = true; batch = batch }) old.latest)
  pub history : new.history ≡ old.history
  pub doubt : new.doubt ≡ old.doubt
  pub broken : new.broken ≡ old.broken
  pub state : new.state ≡ old.state

-- the last number of a session
abbrev pub LAST_SESSION : ℕ
LAST_SESSION = 9223372036854775807

abbrev pub Takes : List ℕ → Bool → DeskState → Result ℕ TakeFault → DeskState → Type 0
Takes client batch old (Ok number) new = (old.drawn < LAST_SESSION) × (number ≡ suc old.drawn) × Drawn client batch old new
Takes client batch old (Err taking.Limit) new = (old.drawn ≡ LAST_SESSION) × Same old new
Takes client batch old (Err taking.Memory) new = Same old new

-- a session has ended
pub record Released (client : List ℕ) (number : ℕ) (old new : DeskState) : Type 0 where
  pub latest : Are new.latest (latest_without client number old.latest)
  pub drawn : new.drawn ≡ old.drawn
  pub history : new.history ≡ old.history
  pub doubt : new.doubt ≡ old.doubt
  pub broken : new.broken ≡ old.broken
  pub state : new.state ≡ old.state

-- the session of a client ends; one without a client leaves the desk as it was
abbrev pub EndsAt : Who → DeskState → DeskState → Type 0
EndsAt Nobody old new = Same old new
EndsAt (Console user) old new = Same old new
EndsAt (Client user client number) old new = Released client number old new
