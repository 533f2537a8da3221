-- What is true of a desk's store once it was opened, and after a commit.
use Rattle.std.proofs.Common.{◌≡◌, ℕ, zero, suc, ◌≤◌, true, false, true≢false, List, [], ◌∷◌, ◌++◌, slice_get, None, IfSome, Result, Ok, Err, refl, sym, ap, subst, ◌∙◌}
use Rattle.std.specs.List.{AllByRecursion as Every}
use Rattle.pc_account_history.specs.declared.entry.Entry.{Entry}
use Rattle.pc_account_history.specs.Record.{AccountRecord}
use Rattle.pc_account_history.specs.History.{History, start, ◌▸◌, ◌▸▸◌}
use Rattle.pc_account_history.specs.Legal.{IsLegal}
use Rattle.pc_account_spelling.specs.RecordForm.{CanBeSaved}
use Rattle.pc_account_holdings.specs.State.{State, StandsFor, step}
use Rattle.pc_account_records.specs.Legal.{accepts}
use Rattle.pc_account_records.specs.Numbered.{suits, numbered}
use Rattle.pc_account_records.specs.Recorded.{numbered_is_legal}
use Rattle.pc_account_records.proofs.Following.{accepts-parts}
use Rattle.pc_account.proofs.Standing.{StandsFor-step}
use Rattle.pc_account.specs.contracts.machine.AccountMachine.TheImpl.{ghosts as machine}
use Rattle.pc_base.specs.declared.store_fault.CommitFault.{CommitFault}
use Rattle.pc_base.specs.declared.store_fault.CommitFault.TheVariants as commit
use Rattle.pc_store.specs.History.{AreAllowed, IsReplay, after}
use Rattle.pc_store.specs.Store.{StoreState}
use Rattle.pc_store.specs.Commit.{CommitLeaves}
use Rattle.pc_house.specs.Base.{BaseOf, IsSavedAs, base_of, base_is, same_base}
use Rattle.pc_session.specs.Desk.{LAST_SESSION}
use Rattle.pc_session.specs.declared.access.Latest.{Latest}
use Rattle.pc_house.specs.Desk.{DeskValue, Fits, IsDesk, IsKept, desk_of, history_of}
use Rattle.pc_house.proofs.Trails.{▸▸-push}

-- the step of an accepted entry
step_stands : (state : State) (entry : Entry) (h : History) → accepts state entry ≡ true → StandsFor state h → StandsFor (step state entry) (h ▸ entry)
step_stands state entry h accepted stands = StandsFor-step state entry (accepts-parts state entry accepted).0 h stands

-- the state of a base stands for it
start_stands : (state : State) (first : ℕ) → CanBeSaved state.held → suits state first ≡ true → StandsFor (numbered state first) (start state.held first)
start_stands state first saved suit = record { legal = (numbered_is_legal state first saved suit).canonical; held = refl; next = refl }

after_stands : (state : State) (h : History) (trail : List Entry) → StandsFor state h → AreAllowed machine state trail → StandsFor (after machine state trail) (h ▸▸ trail)
after_stands state h [] stands allowed = stands
after_stands state h (entry ∷ trail) stands allowed = after_stands (step state entry) (h ▸ entry) trail (step_stands state entry h allowed.0 stands) allowed.1

fit_all : (state : State) (trail : List Entry) → AreAllowed machine state trail → Every Fits trail
fit_all state [] allowed = tt
fit_all state (entry ∷ trail) allowed = ((accepts-parts state entry allowed.0).1, fit_all (step state entry) trail allowed.1)

pub fit_more : (trail : List Entry) (entry : Entry) → Every Fits trail → Fits entry → Every Fits (trail ++ entry ∷ [])
fit_more [] entry all one = (one, tt)
fit_more (x ∷ trail) entry all one = (all.0, fit_more trail entry all.1 one)

pub fit_at : (trail : List Entry) (at : ℕ) → Every Fits trail → IfSome (slice_get trail at) Fits
fit_at [] at all = tt
fit_at (x ∷ trail) zero all = all.0
fit_at (x ∷ trail) (suc at) all = fit_at trail at all.1

module _ {D : Type 0} where
  -- the base is saved as the bytes of the head
  pub replay_saved : (store : StoreState State D Entry) (replay : IsReplay machine store.head store.trail store.state) → IsSavedAs store.head.base replay.history.base.held
  replay_saved store replay = record { saved = replay.history.is_base.canonical; spelled = replay.history.is_base.saved }

  pub replay_stands : (store : StoreState State D Entry) (found : BaseOf store.head.base) → IsReplay machine store.head store.trail store.state → StandsFor store.state (history_of (base_of found) store)
  replay_stands store found replay =
      let told = replay.history in
      let there = after_stands (numbered told.base store.head.first) (start told.base.held store.head.first) store.trail (start_stands told.base store.head.first told.is_base.canonical told.is_base.suits) told.allowed in
      subst (λ (r : AccountRecord). StandsFor store.state (start r store.head.first ▸▸ store.trail)) (sym (base_is store.head.base found told.base.held (replay_saved store replay)))
      (subst (λ (s : State). StandsFor s (start told.base.held store.head.first ▸▸ store.trail)) (sym told.leads) there)

  -- a store that isn't broken, as it was opened
  pub replay_kept : (store : StoreState State D Entry) (found : BaseOf store.head.base) → IsReplay machine store.head store.trail store.state → store.doubt ≡ None → store.renewal ≡ None → IsKept (base_of found) store
  replay_kept store found replay none no_renewal =
      let stands = replay_stands store found replay in
      record {
        legal = stands.legal;
        fits = fit_all (numbered replay.history.base store.head.first) store.trail replay.history.allowed;
        stands = λ whole. stands;
        no_doubt = λ whole. none;
        no_renewal = no_renewal;
      }

  -- what the base was stays true of another disk, another state and another doubt, where the store is broken then
  broken_kept : (base : AccountRecord) (old new : StoreState State D Entry) → IsKept base old → new.broken ≡ true → ◌≡◌ {A = StoreState State D Entry} new (record old { disk = new.disk; state = new.state; broken = new.broken; doubt = new.doubt }) → IsKept base new
  broken_kept base old new kept broken e = record {
    legal = subst (λ (s : StoreState State D Entry). IsLegal (history_of base s)) (sym e) kept.legal;
    fits = subst (λ (s : StoreState State D Entry). Every Fits s.trail) (sym e) kept.fits;
    stands = λ whole. absurd (true≢false (sym broken ∙ whole));
    no_doubt = λ whole. absurd (true≢false (sym broken ∙ whole));
    no_renewal = ap (λ (s : StoreState State D Entry). s.renewal) e ∙ kept.no_renewal;
  }

  made_kept : (base : AccountRecord) (old new : StoreState State D Entry) (entry : Entry) → IsKept base old → old.broken ≡ false → accepts old.state entry ≡ true → ◌≡◌ {A = StoreState State D Entry} new (record old { disk = new.disk; trail = old.trail ++ entry ∷ []; state = step old.state entry }) → IsKept base new
  made_kept base old new entry kept whole accepted e =
      let stands = subst (StandsFor (step old.state entry)) (sym (▸▸-push (start base old.head.first) old.trail entry)) (step_stands old.state entry (history_of base old) accepted (kept.stands whole)) in
      let fits = fit_more old.trail entry kept.fits (accepts-parts old.state entry accepted).1 in
      let then : IsKept base (record old { disk = new.disk; trail = old.trail ++ entry ∷ []; state = step old.state entry }) = record { legal = stands.legal; fits = fits; stands = λ _. stands; no_doubt = kept.no_doubt; no_renewal = kept.no_renewal } in
      subst (IsKept base) (sym e) then

  still_kept : (base : AccountRecord) (old new : StoreState State D Entry) → IsKept base old → old.broken ≡ false → old.doubt ≡ new.doubt → ◌≡◌ {A = StoreState State D Entry} new (record old { disk = new.disk; state = new.state; broken = new.broken }) → (new.broken ≡ false → new.state ≡ old.state) → IsKept base new
  still_kept base old new kept whole doubt e same = record {
    legal = subst (λ (s : StoreState State D Entry). IsLegal (history_of base s)) (sym e) kept.legal;
    fits = subst (λ (s : StoreState State D Entry). Every Fits s.trail) (sym e) kept.fits;
    stands = λ still. subst (λ (s : StoreState State D Entry). StandsFor new.state (history_of base s)) (sym e) (subst (λ (s : State). StandsFor s (history_of base old)) (sym (same still)) (kept.stands whole));
    no_doubt = λ still. sym doubt ∙ kept.no_doubt whole;
    no_renewal = ap (λ (s : StoreState State D Entry). s.renewal) e ∙ kept.no_renewal;
  }

  -- a commit keeps it
  pub commit_kept : (base : AccountRecord) (old new : StoreState State D Entry) (entry : Entry) (result : Result ℕ CommitFault) → IsKept base old → old.broken ≡ false → accepts old.state entry ≡ true → CommitLeaves machine entry result old new → IsKept base new
  commit_kept base old new entry (Ok number) kept whole accepted leaves = made_kept base old new entry kept whole accepted leaves.1
  commit_kept base old new entry (Err commit.Full) kept whole accepted leaves = subst (IsKept base) (sym leaves) kept
  commit_kept base old new entry (Err commit.Device) kept whole accepted leaves =
      let broken = ap (λ (s : StoreState State D Entry). s.broken) leaves in
      broken_kept base old new kept broken (leaves ∙ (λ i. record old { disk = new.disk; state = new.state; broken = sym broken i; doubt = new.doubt }))
  commit_kept base old new entry (Err commit.Memory) kept whole accepted leaves = still_kept base old new kept whole (ap (λ (s : StoreState State D Entry). s.doubt) (sym leaves.0)) leaves.0 leaves.1

  -- and the bytes of the base
  pub commit_head : (old new : StoreState State D Entry) (entry : Entry) (result : Result ℕ CommitFault) → CommitLeaves machine entry result old new → new.head ≡ old.head
  commit_head old new entry (Ok number) leaves = ap (λ (s : StoreState State D Entry). s.head) leaves.1
  commit_head old new entry (Err commit.Full) leaves = ap (λ (s : StoreState State D Entry). s.head) leaves
  commit_head old new entry (Err commit.Device) leaves = ap (λ (s : StoreState State D Entry). s.head) leaves
  commit_head old new entry (Err commit.Memory) leaves = ap (λ (s : StoreState State D Entry). s.head) leaves.0

  -- a change of the disk alone keeps it
  pub disk_kept : (base : AccountRecord) (old new : StoreState State D Entry) → IsKept base old → ◌≡◌ {A = StoreState State D Entry} new (record old { disk = new.disk }) → IsKept base new
  disk_kept base old new kept e =
      let then : IsKept base (record old { disk = new.disk }) = record { legal = kept.legal; fits = kept.fits; stands = kept.stands; no_doubt = kept.no_doubt; no_renewal = kept.no_renewal } in
      subst (IsKept base) (sym e) then

module _ {D : Type 0} (user : List ℕ) (old new : StoreState State D Entry) (found : BaseOf old.head.base) (found' : BaseOf new.head.base) (drawn : ℕ) (sessions sessions' : List (List ℕ × Latest)) where
  -- where the base has the same bytes, it is the same record
  pub same_found : new.head ≡ old.head → base_of found' ≡ base_of found
  same_found e = same_base new.head.base old.head.base (λ i. (e i).base) found' found

  kept_desk : new.head ≡ old.head → IsKept (base_of found) new → drawn ≤ LAST_SESSION → IsDesk (desk_of user new found' drawn sessions')
  kept_desk e kept most = record { kept = subst (λ (r : AccountRecord). IsKept r new) (sym (same_found e)) kept; drawn = most }

  -- a desk after a commit
  pub committed_desk : (entry : Entry) (result : Result ℕ CommitFault) → IsDesk (desk_of user old found drawn sessions) → old.broken ≡ false → accepts old.state entry ≡ true → CommitLeaves machine entry result old new → IsDesk (desk_of user new found' drawn sessions')
  committed_desk entry result is whole accepted leaves = kept_desk (commit_head old new entry result leaves) (commit_kept (base_of found) old new entry result is.kept whole accepted leaves) is.drawn

  -- where the store wasn't opened again
  pub shut_desk : IsDesk (desk_of user old found drawn sessions) → ◌≡◌ {A = StoreState State D Entry} new (record old { disk = new.disk }) → IsDesk (desk_of user new found' drawn sessions')
  shut_desk is e = kept_desk (ap (λ (s : StoreState State D Entry). s.head) e) (disk_kept (base_of found) old new is.kept e) is.drawn

  -- and where it was
  pub opened_desk : IsDesk (desk_of user old found drawn sessions) → IsReplay machine new.head new.trail new.state → (new.doubt ≡ None) × (new.renewal ≡ None) → IsDesk (desk_of user new found' drawn sessions')
  opened_desk is replay none = record { kept = replay_kept new found' replay none.0 none.1; drawn = is.drawn }

-- a desk with other sessions
pub other_sessions : {D : Type 0} (user : List ℕ) (store : StoreState State D Entry) (found found' : BaseOf store.head.base) (drawn drawn' : ℕ) (sessions sessions' : List (List ℕ × Latest)) → IsDesk (desk_of user store found drawn sessions) → drawn' ≤ LAST_SESSION → IsDesk (desk_of user store found' drawn' sessions')
other_sessions user store found found' drawn drawn' sessions sessions' is most = record { kept = subst (λ (r : AccountRecord). IsKept r store) (same_base store.head.base store.head.base refl found found') is.kept; drawn = most }

-- a desk whose disk alone has changed
module _ {D : Type 0} (user : List ℕ) (old new : StoreState State D Entry) (found : BaseOf old.head.base) (found' : BaseOf new.head.base) (drawn : ℕ) (sessions : List (List ℕ × Latest)) (change : D → D) (e : ◌≡◌ {A = StoreState State D Entry} new (record old { disk = change old.disk })) where
  pub disk_desk : IsDesk (desk_of user old found drawn sessions) → IsDesk (desk_of user new found' drawn sessions)
  disk_desk is = shut_desk user old new found found' drawn sessions sessions is (e ∙ (λ i. record old { disk = (sym e i).disk }))

  pub disk_view : (desk : DeskValue D) → desk_of user old found drawn sessions ≡ desk → ◌≡◌ {A = DeskValue D} (desk_of user new found' drawn sessions) (record desk { store = record desk.store { disk = change desk.store.disk } })
  disk_view desk view =
      let same = same_found user old new found found' drawn sessions sessions (ap (λ (s : StoreState State D Entry). s.head) e) in
      let changed : ◌≡◌ {A = DeskValue D} (desk_of user new found' drawn sessions) (record (desk_of user old found drawn sessions) { store = record old { disk = change old.disk } }) = λ i. record { user = user; base = same i; store = e i; drawn = drawn; sessions = sessions } in
      changed ∙ ap (λ (d : DeskValue D). record d { store = record d.store { disk = change d.store.disk } }) view
