-- How a user is enrolled: a new desk, and the user's password and inbox.
use Rattle.std.specs.Prelude.{◌≡◌, ℕ, true, false, List, [], Option, None, Some, Result, Ok, Err}
use Rattle.pc_base.specs.declared.refusal.Refusal.{Refusal}
use Rattle.pc_base.specs.declared.refusal.Refusal.TheVariants.{MailboxExists, ReadOnly}
use Rattle.pc_account_history.specs.Allowed.{is_mailbox}
use Rattle.pc_account_history.specs.declared.entry.Entry.{Entry}
use Rattle.pc_account_history.specs.declared.entry.Entry.TheVariants.{MakeMailbox, Password}
use Rattle.pc_account_history.specs.History.{History, ◌▸◌, known, new_account}
use Rattle.pc_account_history.specs.Record.{empty_record}
use Rattle.pc_account_spelling.specs.Spelling.{spelled_record}
use Rattle.pc_account_holdings.specs.State.{new_state}
use Rattle.pc_account.specs.Digest.{digest_of}
use Rattle.pc_account.specs.Plan.{planned}
use Rattle.pc_account.specs.declared.wish.Wish.{Wish}
use Rattle.pc_account.specs.declared.wish.Wish.TheVariants as wish
use Rattle.pc_base.specs.declared.store_fault.CommitFault.{CommitFault}
use Rattle.pc_base.specs.declared.store_fault.CommitFault.TheVariants.{Full, Device, Memory}
use Rattle.pc_base.specs.Name.{inbox}
use Rattle.pc_store.specs.declared.fault.OpenFault.{OpenFault}
use Rattle.pc_session.specs.Desk.{DeskState, Failed, Made, Same, SameHistory, has_room}
use Rattle.pc_session.specs.Repository.{knows}
use Rattle.pc_house.specs.Desk.{DeskValue}

-- ---- a new desk

-- the desk of a user without entries and sessions, on this disk
abbrev pub new_desk : {D : Type 0} → List ℕ → D → DeskValue D
new_desk user disk = record {
  user = user;
  base = empty_record;
  store = record { disk = disk; area = 0; head = record { kind = 1; generation = 1; first = 1; base = spelled_record empty_record }; trail = []; state = new_state; broken = false; doubt = None; renewal = None };
  drawn = 0;
  sessions = [];
}

-- of the disk of the desk, or of the one that is handed back
abbrev pub OnDisk : {D : Type 0} → Result (DeskValue D) (OpenFault D) → (D → Type 0) → Type 0
OnDisk (Ok desk) holds = holds desk.store.disk
OnDisk (Err fault) holds = holds fault.disk

-- ---- a wish

-- the history with the entry that a wish comes to, where it comes to one
abbrev pub with_plan : History → Result (Option Entry) Refusal → History
with_plan h (Ok (Some entry)) = h ▸ entry
with_plan h (Ok None) = h
with_plan h (Err why) = h

abbrev pub with_wish : History → Wish → History
with_wish h w = with_plan h (planned (known h) w)

-- what comes of a wish that is refused: there is a mailbox of the name already; or the account has no room for it
abbrev pub refused_as : Refusal → Result Unit CommitFault
refused_as MailboxExists = Ok tt
refused_as ReadOnly = Err Full
refused_as _ = Err Full

-- a wish is carried out at a desk: its entry is made, where the journal has room; or it is so already; or it is refused
abbrev pub Carries : Result (Option Entry) Refusal → DeskState → Result Unit CommitFault → DeskState → Type 0
Carries (Ok (Some entry)) old (Ok done) new = (has_room old.history entry ≡ true) × Made entry old new
Carries (Ok (Some entry)) old (Err Full) new = (has_room old.history entry ≡ false) × Same old new
Carries (Ok (Some entry)) old (Err Device) new = (has_room old.history entry ≡ true) × Failed entry old new
Carries (Ok (Some entry)) old (Err Memory) new = SameHistory old new
Carries (Ok None) old result new = (result ≡ Ok tt) × Same old new
Carries (Err why) old result new = (result ≡ refused_as why) × Same old new

-- ---- a user

-- the two wishes of a user who is enrolled
abbrev pub to_know : List ℕ → List ℕ → Wish
to_know user password = wish.Password (digest_of user password)

abbrev pub to_receive : Wish
to_receive = wish.MakeMailbox inbox

-- the history with the password and the inbox of the user, each made where it isn't so yet
abbrev pub enrolled : List ℕ → List ℕ → History → History
enrolled user password h = with_wish (with_wish h (to_know user password)) to_receive

-- the password is the user's, and there is an inbox
pub record IsEnrolled (user password : List ℕ) (h : History) : Type 0 where
  pub has_password : knows h user password ≡ true
  pub has_inbox : is_mailbox (known h) inbox ≡ true

-- the password is set and then the inbox is made, or the first of them that fails ends it
pub data Enrols (user password : List ℕ) (old : DeskState) (result : Result Unit CommitFault) (new : DeskState) : Type 0 where
  unset : (fault : CommitFault) → result ≡ Err fault → Carries (planned (known old.history) (to_know user password)) old (Err fault) new → Enrols user password old result new
  set : (mid : DeskState) → Carries (planned (known old.history) (to_know user password)) old (Ok tt) mid → Carries (planned (known mid.history) to_receive) mid result new → Enrols user password old result new

-- from a new account it is these two entries
abbrev pub FirstEntries : Type 0
FirstEntries = (user password : List ℕ) → enrolled user password new_account ≡ (new_account ▸ Password (digest_of user password) ▸ MakeMailbox inbox)
