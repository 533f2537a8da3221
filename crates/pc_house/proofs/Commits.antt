-- What a commit to the store is to the desk.
use Rattle.std.proofs.Common.{◌≡◌, ◌⊎◌, ℕ, nat_le, Bool, true, false, List, [], ◌∷◌, ◌++◌, length, Option, None, Some, Ok, Err, inl, inr, refl, sym, ap, subst, ◌∙◌, if◌then◌else◌}
use Rattle.pc_base.specs.Stream.{Rose}
use Rattle.pc_account_history.specs.declared.entry.Entry.{Entry}
use Rattle.pc_account_history.specs.History.{start, ◌▸◌, ◌▸▸◌}
use Rattle.pc_account_spelling.specs.Spelling.{spelled_entry}
use Rattle.pc_account_holdings.specs.State.{State}
use Rattle.pc_account.specs.contracts.machine.AccountMachine.TheImpl.{ghosts as machine}
use Rattle.pc_base.specs.declared.store_fault.CommitFault.{CommitFault}
use Rattle.pc_base.specs.declared.store_fault.CommitFault.TheVariants as commit
use Rattle.pc_base.specs.CommitFault.{FullWhere, OnDevice}
use Rattle.pc_store.specs.Store.{StoreState}
use Rattle.pc_store.specs.Commit.{CommitLeaves, doubt_after, is_full}
use Rattle.pc_session.specs.Desk.{Are, Commits}
use Rattle.pc_house.specs.Base.{BaseOf}
use Rattle.pc_house.specs.Desk.{DeskValue, IsDesk, IsKept, desk_of, history_of, told_by}
use Rattle.pc_house.specs.Sessions.{dropped_by, latest_but, latest_in}
use Rattle.pc_house.proofs.Trails.{▸▸-push}
use Rattle.pc_house.proofs.Rooms.{next_is, has_room_where, no_room_where}
use Rattle.pc_house.proofs.Ended.{after_is_but}
use Rattle.pc_house.proofs.Standing.{commit_head, same_found}
use Rattle.pc_session.specs.declared.access.Latest.{Latest}

-- the entry in doubt is none, or the one of the commit
none_or : (entry : Entry) (third : Bool) (doubt : Option Entry) → doubt ≡ (if third then Some entry else None) → (doubt ≡ None) ⊎ (doubt ≡ Some entry)
none_or entry true doubt e = inr e
none_or entry false doubt e = inl e

module _ {D : Type 0} (faults : D → ℕ) (old new : DeskValue D) (entry : Entry) where
  abbrev field : {X : Type 0} → (StoreState State D Entry → X) → Type 0
  field part = part new.store ≡ part old.store

  same_history : new.base ≡ old.base → new.store.head.first ≡ old.store.head.first → new.store.trail ≡ old.store.trail → history_of new.base new.store ≡ history_of old.base old.store
  same_history base first trail = λ i. start (base i) (first i) ▸▸ trail i

  pub more_history : new.base ≡ old.base → new.store.head.first ≡ old.store.head.first → new.store.trail ≡ old.store.trail ++ entry ∷ [] → history_of new.base new.store ≡ (history_of old.base old.store ▸ entry)
  more_history base first trail = (λ i. start (base i) (first i) ▸▸ trail i) ∙ ▸▸-push (start old.base old.store.head.first) old.store.trail entry

  -- the entry was made
  pub commits_ok : (number : ℕ) → new.base ≡ old.base → new.drawn ≡ old.drawn → Are (latest_in new.sessions) (latest_but (dropped_by entry) (latest_in old.sessions)) → old.store.broken ≡ false → CommitLeaves machine entry (Ok number) old.store new.store → is_full machine old.store (length (spelled_entry entry)) ≡ false → Commits entry (told_by faults old) (Ok number) (told_by faults new)
  commits_ok number base drawn sessions whole leaves full = (
    has_room_where old.base old.store entry full,
    leaves.0 ∙ sym (next_is old.base old.store),
    record {
      history = more_history base (ap (λ (s : StoreState State D Entry). s.head.first) leaves.1) (ap (λ (s : StoreState State D Entry). s.trail) leaves.1);
      doubt = leaves.2;
      broken = ap (λ (s : StoreState State D Entry). s.broken) leaves.1 ∙ whole;
      drawn = drawn;
      latest = λ client. sessions client ∙ after_is_but entry (latest_in old.sessions) client;
    },
  )

  -- and where it wasn't
  pub commits_err : (fault : CommitFault) → new.base ≡ old.base → new.drawn ≡ old.drawn → new.sessions ≡ old.sessions → IsKept old.base old.store → old.store.broken ≡ false → CommitLeaves machine entry (Err fault) old.store new.store → FullWhere {T = ℕ} (Err fault) (is_full machine old.store (length (spelled_entry entry))) → (calls : ℕ) → OnDevice {T = ℕ} (Err fault) (new.store.doubt ≡ doubt_after entry calls) → OnDevice {T = ℕ} (Err fault) (Rose (faults old.store.disk) (faults new.store.disk)) → Commits entry (told_by faults old) (Err fault) (told_by faults new)
  commits_err commit.Full base drawn sessions kept whole leaves full calls doubt rose = (
    no_room_where old.base old.store entry full,
    record {
      history = same_history base (ap (λ (s : StoreState State D Entry). s.head.first) leaves) (ap (λ (s : StoreState State D Entry). s.trail) leaves);
      doubt = ap (λ (s : StoreState State D Entry). s.doubt) leaves;
      broken = ap (λ (s : StoreState State D Entry). s.broken) leaves;
      state = ap (λ (s : StoreState State D Entry). s.state) leaves;
      drawn = drawn;
      latest = λ client. ap (λ s. latest_in s client) sessions;
    },
  )
  commits_err commit.Device base drawn sessions kept whole leaves full calls doubt rose = (
    has_room_where old.base old.store entry full,
    record {
      history = same_history base (ap (λ (s : StoreState State D Entry). s.head.first) leaves) (ap (λ (s : StoreState State D Entry). s.trail) leaves);
      doubt = none_or entry (nat_le 3 calls) new.store.doubt doubt;
      broken = ap (λ (s : StoreState State D Entry). s.broken) leaves;
      drawn = drawn;
      latest = λ client. ap (λ s. latest_in s client) sessions;
      rose = rose;
    },
  )
  commits_err commit.Memory base drawn sessions kept whole leaves full calls doubt rose = record {
    history = same_history base (ap (λ (s : StoreState State D Entry). s.head.first) leaves.0) (ap (λ (s : StoreState State D Entry). s.trail) leaves.0);
    doubt = ap (λ (s : StoreState State D Entry). s.doubt) leaves.0 ∙ kept.no_doubt whole;
    whole = leaves.1;
    drawn = drawn;
    latest = λ client. ap (λ s. latest_in s client) sessions;
  }

module _ {D : Type 0} (faults : D → ℕ) (user : List ℕ) (old new : StoreState State D Entry) (found : BaseOf old.head.base) (found' : BaseOf new.head.base) (drawn : ℕ) (sessions sessions' : List (List ℕ × Latest)) (entry : Entry) where
  pub desk_commits : (number : ℕ) → Are (latest_in sessions') (latest_but (dropped_by entry) (latest_in sessions)) → old.broken ≡ false → CommitLeaves machine entry (Ok number) old new → is_full machine old (length (spelled_entry entry)) ≡ false → Commits entry (told_by faults (desk_of user old found drawn sessions)) (Ok number) (told_by faults (desk_of user new found' drawn sessions'))
  desk_commits number are whole leaves full = commits_ok faults (desk_of user old found drawn sessions) (desk_of user new found' drawn sessions') entry number (same_found user old new found found' drawn sessions sessions' (commit_head old new entry (Ok number) leaves)) refl are whole leaves full

  pub desk_fails : (desk : DeskValue D) → desk_of user old found drawn sessions ≡ desk → (fault : CommitFault) → IsDesk (desk_of user old found drawn sessions) → old.broken ≡ false → CommitLeaves machine entry (Err fault) old new → FullWhere {T = ℕ} (Err fault) (is_full machine old (length (spelled_entry entry))) → (calls : ℕ) → OnDevice {T = ℕ} (Err fault) (new.doubt ≡ doubt_after entry calls) → OnDevice {T = ℕ} (Err fault) (Rose (faults old.disk) (faults new.disk)) → Commits entry (told_by faults desk) (Err fault) (told_by faults (desk_of user new found' drawn sessions))
  desk_fails desk view fault is whole leaves full calls doubt rose =
      subst (λ (d : DeskValue D). Commits entry (told_by faults d) (Err fault) (told_by faults (desk_of user new found' drawn sessions))) view
      (commits_err faults (desk_of user old found drawn sessions) (desk_of user new found' drawn sessions) entry fault (same_found user old new found found' drawn sessions sessions (commit_head old new entry (Err fault) leaves)) refl refl is.kept whole leaves full calls doubt rose)
