-- What becomes of the latest sessions.
use Rattle.std.proofs.Common.{◌≡◌, ℕ, Bool, true, false, cond, List, Option, None, Some, refl, sym, ap, ◌∙◌, if◌then◌else◌}
use Rattle.std.specs.Option.{option_map}
use Rattle.pc_account_history.specs.declared.entry.Entry.{Entry}
use Rattle.pc_account_history.specs.declared.entry.Entry.TheVariants.{DropClient, MakeMailbox}
use Rattle.pc_tables.specs.Table.{same}
use Rattle.pc_tables.proofs.Table.{same-true}
use Rattle.pc_session.specs.declared.access.Latest.{Latest}
use Rattle.pc_session.specs.Desk.{ended_if, latest_after, latest_without}
use Rattle.pc_house.specs.Sessions.{dropped_by, latest_but, latest_in}

module _ (client : List ℕ) (number : ℕ) (sessions : List (List ℕ × Latest)) (other : List ℕ) where
  -- the session was written over
  pub ended_at : (session ended : Latest) → Some session ≡ latest_in sessions client → ended ≡ ended_if number session → cond (same client other) (Some ended) (latest_in sessions other) ≡ latest_without client number (latest_in sessions) other
  ended_at session ended found is = by (same client other) refl
    where
      by : (b : Bool) → same client other ≡ b → cond b (Some ended) (latest_in sessions other) ≡ (if b then option_map (ended_if number) (latest_in sessions other) else latest_in sessions other)
      by true e = ap Some is ∙ ap (option_map (ended_if number)) (found ∙ ap (latest_in sessions) (same-true client other e))
      by false e = refl

  -- the client has none
  pub none_ends : latest_in sessions client ≡ None → latest_in sessions other ≡ latest_without client number (latest_in sessions) other
  none_ends none = by (same client other) refl
    where
      by : (b : Bool) → same client other ≡ b → latest_in sessions other ≡ (if b then option_map (ended_if number) (latest_in sessions other) else latest_in sessions other)
      by true e =
          let here : latest_in sessions other ≡ None = ap (latest_in sessions) (sym (same-true client other e)) ∙ none in
          here ∙ sym (ap (option_map (ended_if number)) here)
      by false e = refl

-- an entry takes away the session of the client that it takes away
pub after_is_but : (entry : Entry) (latest : List ℕ → Option Latest) (other : List ℕ) → latest_but (dropped_by entry) latest other ≡ latest_after entry latest other
after_is_but (DropClient client) latest other = refl
after_is_but (MakeMailbox mailbox) latest other = refl
after_is_but _ latest other = refl
