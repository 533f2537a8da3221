-- What drawing a session number is to the desk.
use Rattle.std.proofs.Common.{◌≡◌, ℕ, suc, ◌+◌, ◌<◌, ◌≤◌, Bool, true, List, Ok, refl, ap, subst, ◌∙◌, arith}
use Rattle.pc_account_history.specs.declared.entry.Entry.{Entry}
use Rattle.pc_account_holdings.specs.State.{State}
use Rattle.pc_store.specs.Store.{StoreState}
use Rattle.pc_session.specs.declared.access.Latest.{Latest}
use Rattle.pc_session.specs.Desk.{Are, Same, Takes, LAST_SESSION, latest_with}
use Rattle.pc_house.specs.Base.{BaseOf, same_base}
use Rattle.pc_house.specs.Desk.{DeskValue, desk_of, history_of, told_by}
use Rattle.pc_house.specs.Sessions.{latest_in}

module _ {D : Type 0} (faults : D → ℕ) (user : List ℕ) (store : StoreState State D Entry) (found found' : BaseOf store.head.base) (drawn : ℕ) (sessions sessions' : List (List ℕ × Latest)) (desk : DeskValue D) (view : desk_of user store found drawn sessions ≡ desk) where
  -- memory was wanted
  pub stays_same : sessions' ≡ sessions → Same (told_by faults desk) (told_by faults (desk_of user store found' drawn sessions'))
  stays_same e = subst (λ (d : DeskValue D). Same (told_by faults d) (told_by faults (desk_of user store found' drawn sessions'))) view (record {
    history = ap (λ base. history_of base store) (same_base store.head.base store.head.base refl found' found);
    doubt = refl;
    broken = refl;
    state = refl;
    drawn = refl;
    latest = λ client. ap (λ s. latest_in s client) e;
  })

  below_last : drawn ≤ LAST_SESSION → (drawn ≡ LAST_SESSION → ⊥) → drawn < LAST_SESSION
  below_last most other = omega (arith, most, other)

  -- a number was drawn
  pub takes : (client : List ℕ) (batch : Bool) → drawn ≤ LAST_SESSION → (drawn ≡ LAST_SESSION → ⊥) → Are (latest_in sessions') (latest_with client (record { number = drawn + 1; live = true; batch = batch }) (latest_in sessions)) → Takes client batch (told_by faults desk) (Ok (drawn + 1)) (told_by faults (desk_of user store found' (drawn + 1) sessions'))
  takes client batch most other are =
      let next : drawn + 1 ≡ suc drawn = omega arith in
      let session : ℕ → Latest = λ number. record { number = number; live = true; batch = batch } in
      subst (λ (d : DeskValue D). Takes client batch (told_by faults d) (Ok (drawn + 1)) (told_by faults (desk_of user store found' (drawn + 1) sessions'))) view (
        below_last most other,
        next,
        record {
          drawn = next;
          latest = λ name. are name ∙ ap (λ (number : ℕ). latest_with client (session number) (latest_in sessions) name) next;
          history = ap (λ base. history_of base store) (same_base store.head.base store.head.base refl found' found);
          doubt = refl;
          broken = refl;
          state = refl;
        },
      )
