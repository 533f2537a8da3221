-- What opening the store again is to the desk.
use Rattle.std.proofs.Common.{◌≡◌, ◌⊎◌, ℕ, suc, nat_lt, Bool, true, false, List, [], ◌∷◌, ◌++◌, length, Option, None, Some, MatchOption, Ok, Err, inl, inr, refl, sym, ap, subst, ◌∙◌, arith}
use Rattle.std.specs.Option.{option_and_then}
use Rattle.std.proofs.lemmas.List.{length-append}
use Rattle.std.proofs.lemmas.Option.{none-some}
use Rattle.pc_base.specs.Stream.{Rose}
use Rattle.pc_account_history.specs.declared.entry.Entry.{Entry}
use Rattle.pc_account_history.specs.History.{History, start, ◌▸◌, ◌▸▸◌}
use Rattle.pc_account_holdings.specs.State.{State}
use Rattle.pc_base.specs.declared.store_fault.StoreFault.{StoreFault}
use Rattle.pc_base.specs.declared.store_fault.StoreFault.TheVariants as store
use Rattle.pc_store.specs.Store.{StoreState, SameHistory}
use Rattle.pc_store.specs.Store.SameHistory.{as_it_was, with_entry, renewed}
use Rattle.pc_store.specs.Opening.{IsOutside, OnDevice}
use Rattle.pc_session.specs.declared.access.Latest.{Latest}
use Rattle.pc_session.specs.Desk.{Are, Same, Opens, Resolved, latest_after}
use Rattle.pc_house.specs.Base.{BaseOf}
use Rattle.pc_house.specs.Desk.{DeskValue, desk_of, history_of, told_by}
use Rattle.pc_house.specs.Sessions.{dropped_by, latest_but, latest_in, dropped_if}
use Rattle.pc_house.proofs.Trails.{▸▸-push}
use Rattle.pc_house.proofs.Ended.{after_is_but}
use Rattle.pc_house.proofs.Standing.{same_found}

-- a client that was dropped in doubt, or none, whether the entry came or not
either_latest : (came : Bool) (doubt : Option Entry) (old new : List ℕ → Option Latest) → Are new (latest_but (dropped_if came (option_and_then dropped_by doubt)) old) → Are new old ⊎ MatchOption doubt ⊥ (λ entry. Are new (latest_after entry old))
either_latest false doubt old new are = inl are
either_latest true None old new are = inl are
either_latest true (Some entry) old new are = inr (λ client. are client ∙ after_is_but entry old client)

-- the entry didn't come
resolved_without : (doubt : Option Entry) (h h' : History) (old new : List ℕ → Option Latest) (count count' : ℕ) → h' ≡ h → count' ≡ count → Are new (latest_but (dropped_if (nat_lt count count') (option_and_then dropped_by doubt)) old) → ((h' ≡ h) × Are new old) ⊎ MatchOption doubt ⊥ (λ entry. (h' ≡ (h ▸ entry)) × Are new (latest_after entry old))
resolved_without doubt h h' old new count count' same e are =
    let stayed : nat_lt count count' ≡ false = grind arith in
    inl (same, λ client. are client ∙ ap (λ (b : Bool). latest_but (dropped_if b (option_and_then dropped_by doubt)) old client) stayed)

-- the entry came
resolved_with : (entry : Entry) (h h' : History) (old new : List ℕ → Option Latest) (count count' : ℕ) → h' ≡ (h ▸ entry) → count' ≡ suc count → Are new (latest_but (dropped_if (nat_lt count count') (dropped_by entry)) old) → (h' ≡ (h ▸ entry)) × Are new (latest_after entry old)
resolved_with entry h h' old new count count' more e are =
    let came : nat_lt count count' ≡ true = grind arith in
    (more, λ client. are client ∙ ap (λ (b : Bool). latest_but (dropped_if b (dropped_by entry)) old client) came ∙ after_is_but entry old client)

-- where no head was in doubt, the store has the head that it had
same_head : {M D E : Type 0} (old new : StoreState M D E) → old.renewal ≡ None → SameHistory old new → new.head ≡ old.head
same_head old new none (as_it_was area head trail) = head
same_head old new none (with_entry entry doubt area head trail) = head
same_head old new none (renewed other renewal area head trail) = absurd (none-some other (sym none ∙ renewal))

-- and the trail that it had, or that with the entry in doubt
same_trail : {M D E : Type 0} (old new : StoreState M D E) → old.renewal ≡ None → SameHistory old new → (new.trail ≡ old.trail) ⊎ MatchOption old.doubt ⊥ (λ entry. new.trail ≡ old.trail ++ entry ∷ [])
same_trail old new none (as_it_was area head trail) = inl trail
same_trail {E = E} old new none (with_entry entry doubt area head trail) = inr (subst (λ (o : Option E). MatchOption o ⊥ (λ entry. new.trail ≡ old.trail ++ entry ∷ [])) (sym doubt) trail)
same_trail old new none (renewed other renewal area head trail) = absurd (none-some other (sym none ∙ renewal))

module _ {D : Type 0} (faults : D → ℕ) (old new : DeskValue D) where
  resolved_by : (doubt : Option Entry) → MatchOption doubt ⊥ (λ entry. new.store.trail ≡ old.store.trail ++ entry ∷ []) → new.base ≡ old.base → new.store.head ≡ old.store.head → Are (latest_in new.sessions) (latest_but (dropped_if (nat_lt (length old.store.trail) (length new.store.trail)) (option_and_then dropped_by doubt)) (latest_in old.sessions)) → MatchOption doubt ⊥ (λ entry. (history_of new.base new.store ≡ (history_of old.base old.store ▸ entry)) × Are (latest_in new.sessions) (latest_after entry (latest_in old.sessions)))
  resolved_by None trail base head are = trail
  resolved_by (Some entry) trail base head are =
      let more = (λ i. start (base i) (head i).first ▸▸ trail i) ∙ ▸▸-push (start old.base old.store.head.first) old.store.trail entry in
      let count : length new.store.trail ≡ suc (length old.store.trail) = ap length trail ∙ omega (arith, length-append old.store.trail (entry ∷ [])) in
      resolved_with entry (history_of old.base old.store) (history_of new.base new.store) (latest_in old.sessions) (latest_in new.sessions) (length old.store.trail) (length new.store.trail) more count are

  resolved : new.base ≡ old.base → old.store.renewal ≡ None → SameHistory old.store new.store → Are (latest_in new.sessions) (latest_but (dropped_if (nat_lt (length old.store.trail) (length new.store.trail)) (option_and_then dropped_by old.store.doubt)) (latest_in old.sessions)) → Resolved (told_by faults old) (told_by faults new)
  resolved base none same are =
      let head = same_head old.store new.store none same in
      elim (same_trail old.store new.store none same) [
        | inl trail ↦ resolved_without old.store.doubt (history_of old.base old.store) (history_of new.base new.store) (latest_in old.sessions) (latest_in new.sessions) (length old.store.trail) (length new.store.trail) (λ i. start (base i) (head i).first ▸▸ trail i) (ap length trail) are
        | inr trail ↦ inr (resolved_by old.store.doubt trail base head are)
      ]

  pub opens_ok : (tells : Type 0) → (tells → new.base ≡ old.base) → new.drawn ≡ old.drawn → old.store.renewal ≡ None → (tells → SameHistory old.store new.store) → (new.store.broken ≡ false) × (new.store.doubt ≡ None) × (new.store.renewal ≡ None) → Are (latest_in new.sessions) (latest_but (dropped_if (nat_lt (length old.store.trail) (length new.store.trail)) (option_and_then dropped_by old.store.doubt)) (latest_in old.sessions)) → Opens tells (told_by faults old) (Ok tt) (told_by faults new)
  opens_ok tells base drawn none same mended are = record {
    doubt = mended.1;
    broken = mended.0;
    drawn = drawn;
    resolved = λ told. resolved (base told) none (same told) are;
    latest = either_latest (nat_lt (length old.store.trail) (length new.store.trail)) old.store.doubt (latest_in old.sessions) (latest_in new.sessions) are;
  }

  same_told : new.base ≡ old.base → new.drawn ≡ old.drawn → new.sessions ≡ old.sessions → ◌≡◌ {A = StoreState State D Entry} new.store (record old.store { disk = new.store.disk }) → Same (told_by faults old) (told_by faults new)
  same_told base drawn sessions e = record {
    history = λ i. start (base i) (e i).head.first ▸▸ (e i).trail;
    doubt = ap (λ (s : StoreState State D Entry). s.doubt) e;
    broken = ap (λ (s : StoreState State D Entry). s.broken) e;
    state = ap (λ (s : StoreState State D Entry). s.state) e;
    drawn = drawn;
    latest = λ client. ap (λ s. latest_in s client) sessions;
  }

  pub opens_err : (tells : Type 0) (fault : StoreFault) → new.base ≡ old.base → new.drawn ≡ old.drawn → new.sessions ≡ old.sessions → ◌≡◌ {A = StoreState State D Entry} new.store (record old.store { disk = new.store.disk }) → (tells → IsOutside fault) → OnDevice {T = Unit {0}} (Err fault) (Rose (faults old.store.disk) (faults new.store.disk)) → Opens tells (told_by faults old) (Err fault) (told_by faults new)
  opens_err tells store.Device base drawn sessions e outside rose = (same_told base drawn sessions e, rose)
  opens_err tells store.Memory base drawn sessions e outside rose = same_told base drawn sessions e
  opens_err tells store.NotMade base drawn sessions e outside rose = (same_told base drawn sessions e, outside)
  opens_err tells (store.Malformed area place) base drawn sessions e outside rose = (same_told base drawn sessions e, outside)

module _ {D : Type 0} (faults : D → ℕ) (tells : Type 0) (user : List ℕ) (old new : StoreState State D Entry) (found : BaseOf old.head.base) (found' : BaseOf new.head.base) (drawn : ℕ) (sessions sessions' : List (List ℕ × Latest)) where
  pub desk_opens : (desk : DeskValue D) → desk_of user old found drawn sessions ≡ desk → old.renewal ≡ None → (tells → SameHistory old new) → (new.broken ≡ false) × (new.doubt ≡ None) × (new.renewal ≡ None) → Are (latest_in sessions') (latest_but (dropped_if (nat_lt (length old.trail) (length new.trail)) (option_and_then dropped_by old.doubt)) (latest_in sessions)) → Opens tells (told_by faults desk) (Ok tt) (told_by faults (desk_of user new found' drawn sessions'))
  desk_opens desk view none same mended are =
      subst (λ (d : DeskValue D). Opens tells (told_by faults d) (Ok tt) (told_by faults (desk_of user new found' drawn sessions'))) view
      (opens_ok faults (desk_of user old found drawn sessions) (desk_of user new found' drawn sessions') tells (λ told. same_found user old new found found' drawn sessions sessions' (same_head old new none (same told))) refl none same mended are)

  pub desk_stays_shut : (desk : DeskValue D) → desk_of user old found drawn sessions ≡ desk → (fault : StoreFault) → ◌≡◌ {A = StoreState State D Entry} new (record old { disk = new.disk }) → (tells → IsOutside fault) → OnDevice {T = Unit {0}} (Err fault) (Rose (faults old.disk) (faults new.disk)) → Opens tells (told_by faults desk) (Err fault) (told_by faults (desk_of user new found' drawn sessions))
  desk_stays_shut desk view fault e outside rose =
      subst (λ (d : DeskValue D). Opens tells (told_by faults d) (Err fault) (told_by faults (desk_of user new found' drawn sessions))) view
      (opens_err faults (desk_of user old found drawn sessions) (desk_of user new found' drawn sessions) tells fault (same_found user old new found found' drawn sessions sessions (ap (λ (s : StoreState State D Entry). s.head) e)) refl refl e outside rose)
