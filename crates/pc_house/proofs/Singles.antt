-- A repository on one thread, when the desk of one user was asked.
use Rattle.std.proofs.Common.{◌≡◌, ℕ, ◌≤◌, Bool, true, false, cond, List, [], ◌∷◌, get_or, length, nat_lt, not, ◌+◌, ◌<◌, arith, Option, None, Some, is_some, option_map, refl, sym, ap, subst, ◌∙◌, position, MatchOption}
use Rattle.std.proofs.Math.ListN.{set}
use Rattle.std.specs.List.{position_or_len}
use borrow.Author.Tests.{ltb-true, ltb-false}
use Rattle.std.specs.Map.{lookup, set_value}
use Rattle.pc_tables.specs.Table.{same}
use Rattle.pc_tables.proofs.Table.{lookup-set_value, same-refl, same-true}
use Rattle.pc_tables.proofs.Options.{some-none, some-same}
use Rattle.pc_tables.proofs.Places.{lookup-found, set-found}
use Rattle.pc_base.specs.declared.refusal.Refusal.TheVariants.{BadUserOrPassword}
use Rattle.pc_reply.specs.declared.head.Head.TheVariants as head
use Rattle.pc_reply.specs.declared.reply.Reply.{Reply}
use Rattle.pc_request.specs.declared.request.Request.{Request}
use Rattle.pc_session.specs.Desk.{DeskState}
use Rattle.pc_session.specs.Desks.{AllStay, Asked, AskedOfUser, AskedReaching, AskedSomewhere, EndsAtDeskOf, OthersStay, SessionEnds}
use Rattle.pc_session.specs.Repository.{Replies, answer_alone, plain}
use Rattle.pc_session.specs.States.{reach_of, user_of}
use Rattle.pc_session.specs.Turn.{Heard, Keeps, SessionValue, Turn}
use Rattle.pc_session.specs.declared.state.Reach.{Reach}
use Rattle.pc_session.specs.declared.state.Reach.TheVariants.{Account, Nobody}
use Rattle.pc_session.specs.declared.state.Who.{Who}
use Rattle.pc_house.specs.Asking.{AsksDesk}
use Rattle.pc_house.specs.Desk.{DeskValue, told_by}
use Rattle.pc_house.specs.Single.{AreUsers, desk_for, has_desk, told_in, told_users}

abbrev no_index : Option ℕ
no_index = None

-- the desk that is found is the user's
user_named : {D : Type 0} (user : List ℕ) (desks : List (List ℕ × DeskValue D)) (found : DeskValue D) → AreUsers desks → desk_for desks user ≡ Some found → found.user ≡ user
user_named user [] found are is = absurd (some-none found (sym is))
user_named {D} user (desk ∷ desks) found (named, are) is = by (same user desk.0) refl is (user_named user desks found are)
  where
    by : (b : Bool) → same user desk.0 ≡ b → cond b (Some desk.1) (desk_for desks user) ≡ Some found → (desk_for desks user ≡ Some found → found.user ≡ user) → found.user ≡ user
    by true e is rest = ap (λ (d : DeskValue D). d.user) (sym (some-same desk.1 found is)) ∙ named ∙ sym (same-true user desk.0 e)
    by false e is rest = rest is

-- another of the user's may stand in its place
are_set : {D : Type 0} (user : List ℕ) (desks : List (List ℕ × DeskValue D)) (new : DeskValue D) → AreUsers desks → new.user ≡ user → AreUsers (set_value (same user) desks new)
are_set user [] new are is = are
are_set {D} user (desk ∷ desks) new (named, are) is = by (same user desk.0) refl (are_set user desks new are is)
  where
    by : (b : Bool) → same user desk.0 ≡ b → AreUsers (set_value (same user) desks new) → AreUsers (cond b ((desk.0, new) ∷ desks) (desk ∷ set_value (same user) desks new))
    by true e rest = (is ∙ same-true user desk.0 e, are)
    by false e rest = (named, rest)

-- a place that is found is one of the list's
pub within : {X : Type 0} (p : X → Bool) (xs : List X) (index : ℕ) → Some index ≡ position p xs → index < length xs
within p xs index at = by (nat_lt (position_or_len p xs) (length xs)) refl at
  where
    by : (b : Bool) → nat_lt (position_or_len p xs) (length xs) ≡ b → Some index ≡ cond b (Some (position_or_len p xs)) None → index < length xs
    by true e at = let same_place = some-same index (position_or_len p xs) at in let less = ltb-true (position_or_len p xs) (length xs) e in omega (arith, same_place, less)
    by false e at = absurd (some-none index at)

-- the place in a list is the place in the list that it stands for
pub at_place : {X : Type 0} (p : X → Bool) (items all : List X) (index : ℕ) → items ≡ all → Some index ≡ position p all → Some index ≡ position p items
at_place p items all index view at = at ∙ ap (position p) (sym view)

-- where no place is found, the user has no desk
unlisted : {X : Type 0} (user : List ℕ) (table : List (List ℕ × X)) → length table ≤ position_or_len (λ (entry : List ℕ × X). same user entry.0) table → lookup (same user) table ≡ None
unlisted user [] most = refl
unlisted {X} user (entry ∷ table) most = by (same user entry.0) most (unlisted user table)
  where
    by : (b : Bool) → length (entry ∷ table) ≤ cond (not b) (1 + position_or_len (λ (other : List ℕ × X). same user other.0) table) 0 → (length table ≤ position_or_len (λ (other : List ℕ × X). same user other.0) table → lookup (same user) table ≡ None) → cond b (Some entry.1) (lookup (same user) table) ≡ None
    by true most rest = absurd (omega (arith, most))
    by false most rest = rest (omega (arith, most))

pub absent : {D : Type 0} (user : List ℕ) (desks : List (List ℕ × DeskValue D)) → no_index ≡ position (λ (entry : List ℕ × DeskValue D). same user entry.0) desks → desk_for desks user ≡ None
absent {D} user desks none = by (nat_lt (position_or_len (λ (entry : List ℕ × DeskValue D). same user entry.0) desks) (length desks)) refl none
  where
    by : (b : Bool) → nat_lt (position_or_len (λ (entry : List ℕ × DeskValue D). same user entry.0) desks) (length desks) ≡ b → no_index ≡ cond b (Some (position_or_len (λ (entry : List ℕ × DeskValue D). same user entry.0) desks)) None → desk_for desks user ≡ None
    by true e none = absurd (some-none _ (sym none))
    by false e none = unlisted user desks (ltb-false (position_or_len (λ (entry : List ℕ × DeskValue D). same user entry.0) desks) (length desks) e)

-- nobody was asked
module _ {D : Type 0} (faults : D → ℕ) (desks : List (List ℕ × DeskValue D)) (tells : Type 0) (request : Request) (s : SessionValue) (reply : Reply) (behind : SessionValue) where
  pub asked_alone : Nobody ≡ reach_of s.state request → Replies (answer_alone s.state request) reply → Heard request false reply s behind → Keeps s behind → Asked tells request (told_in faults desks) s reply (told_in faults desks) behind
  asked_alone reach replies heard keeps = subst (λ (r : Reach). AskedReaching tells r request (told_in faults desks) s reply (told_in faults desks) behind) reach (replies, heard, keeps, λ user. refl)

  -- or one who has no desk
  pub asked_absent : (user : List ℕ) → Account user ≡ reach_of s.state request → no_index ≡ position (λ (entry : List ℕ × DeskValue D). same user entry.0) desks → reply ≡ plain (head.Refused BadUserOrPassword) → behind ≡ s → Asked tells request (told_in faults desks) s reply (told_in faults desks) behind
  asked_absent user reach none replies same_session =
      let nothing : told_in faults desks user ≡ None = ap (option_map (told_by faults)) (absent user desks none) in
      let here = subst (λ (o : Option DeskState). AskedOfUser tells user request o s reply o behind) (sym nothing) (replies, same_session) in
      subst (λ (r : Reach). AskedReaching tells r request (told_in faults desks) s reply (told_in faults desks) behind) reach (here, λ other e. refl)

-- the session of a user without a desk ends
pub ended_absent : {D : Type 0} (faults : D → ℕ) (desks : List (List ℕ × DeskValue D)) (user : List ℕ) (who : Who) → Some user ≡ user_of who → no_index ≡ position (λ (entry : List ℕ × DeskValue D). same user entry.0) desks → SessionEnds who (told_in faults desks) (told_in faults desks)
ended_absent faults desks user who is_user none =
    let nothing : told_in faults desks user ≡ None = ap (option_map (told_by faults)) (absent user desks none) in
    let here = subst (λ (o : Option DeskState). EndsAtDeskOf who o o) (sym nothing) _ in
    subst (λ (u : Option (List ℕ)). MatchOption u (AllStay (told_in faults desks) (told_in faults desks)) (λ name. EndsAtDeskOf who (told_in faults desks name) (told_in faults desks name) × OthersStay name (told_in faults desks) (told_in faults desks))) is_user (here, λ other e. refl)

module _ {D : Type 0} (faults : D → ℕ) (user : List ℕ) (desks : List (List ℕ × DeskValue D)) (desk : List ℕ × DeskValue D) (index : ℕ) (at : Some index ≡ position (λ (entry : List ℕ × DeskValue D). same user entry.0) desks) (is : desk ≡ get_or desks index desk) where
  pub found : desk_for desks user ≡ Some desk.1
  found = lookup-found user desks desk index at ∙ ap (λ (d : List ℕ × DeskValue D). Some d.1) (sym is)

  pub its_user : AreUsers desks → desk.1.user ≡ user
  its_user are = user_named user desks desk.1 are found

  told_before : told_in faults desks user ≡ Some (told_by faults desk.1)
  told_before = ap (option_map (told_by faults)) found

  module _ (new : DeskValue D) where
    placed : set desks index (desk.0, new) ≡ set_value (same user) desks new
    placed = ap (λ (name : List ℕ). set desks index (name, new)) (ap (λ (d : List ℕ × DeskValue D). d.0) is) ∙ sym (set-found user desks new desk index at)

    pub are_still : AreUsers desks → new.user ≡ desk.1.user → AreUsers (set desks index (desk.0, new))
    are_still are same_user = subst AreUsers (sym placed) (are_set user desks new are (same_user ∙ its_user are))

    looked_up : (other : List ℕ) → desk_for (set desks index (desk.0, new)) other ≡ cond (same user other) (Some new) (desk_for desks other)
    looked_up other =
        ap (λ (all : List (List ℕ × DeskValue D)). desk_for all other) placed ∙ lookup-set_value user other desks new
        ∙ ap (λ (o : Option (DeskValue D)). cond (same user other) (option_map (λ (_ : DeskValue D). new) o) (desk_for desks other)) found

    told_after : told_in faults (set desks index (desk.0, new)) user ≡ Some (told_by faults new)
    told_after = ap (option_map (told_by faults)) (looked_up user ∙ ap (λ b. cond b (Some new) (desk_for desks user)) (same-refl user))

    others_stay : OthersStay user (told_in faults desks) (told_in faults (set desks index (desk.0, new)))
    others_stay other e = ap (option_map (told_by faults)) (looked_up other ∙ ap (λ b. cond b (Some new) (desk_for desks other)) e)

    pub same_users : has_desk (set desks index (desk.0, new)) ≡ has_desk desks
    same_users = λ i other. at_other other i
      where
        at_other : (other : List ℕ) → has_desk (set desks index (desk.0, new)) other ≡ has_desk desks other
        at_other other = ap is_some (looked_up other) ∙ by (same user other) refl
          where
            by : (b : Bool) → same user other ≡ b → is_some (cond b (Some new) (desk_for desks other)) ≡ has_desk desks other
            by true e = ap is_some (sym found) ∙ ap (has_desk desks) (same-true user other e)
            by false e = refl

    -- the user's desk was asked
    pub asked_there : (tells : Type 0) (request : Request) (s : SessionValue) (reply : Reply) (behind : SessionValue) → AreUsers desks → Account user ≡ reach_of s.state request → AsksDesk tells faults (reach_of s.state request) request desk.1 s reply new behind → Heard request false reply s behind → Asked tells request (told_in faults desks) s reply (told_in faults (set desks index (desk.0, new))) behind
    asked_there tells request s reply behind are reach asks heard =
        let asked = subst (λ (r : Reach). AsksDesk tells faults r request desk.1 s reply new behind) (sym reach) asks in
        let turn = subst (λ (name : List ℕ). Turn tells name request (told_by faults desk.1) s reply (told_by faults new) behind) (its_user are) asked.0 in
        let here : AskedOfUser tells user request (Some (told_by faults desk.1)) s reply (Some (told_by faults new)) behind = (turn, heard, asked.1) in
        let there = subst (λ (o : Option DeskState). AskedOfUser tells user request o s reply (Some (told_by faults new)) behind) (sym told_before) here in
        let whole = subst (λ (o : Option DeskState). AskedOfUser tells user request (told_in faults desks user) s reply o behind) (sym told_after) there in
        subst (λ (r : Reach). AskedReaching tells r request (told_in faults desks) s reply (told_in faults (set desks index (desk.0, new))) behind) reach (whole, others_stay)

    -- the user's session ended
    pub ended_there : (who : Who) → Some user ≡ user_of who → EndsAtDeskOf who (Some (told_by faults desk.1)) (Some (told_by faults new)) → SessionEnds who (told_in faults desks) (told_in faults (set desks index (desk.0, new)))
    ended_there who is_user ends =
        let there = subst (λ (o : Option DeskState). EndsAtDeskOf who o (Some (told_by faults new))) (sym told_before) ends in
        let whole = subst (λ (o : Option DeskState). EndsAtDeskOf who (told_in faults desks user) o) (sym told_after) there in
        subst (λ (u : Option (List ℕ)). MatchOption u (AllStay (told_in faults desks) (told_in faults (set desks index (desk.0, new)))) (λ name. EndsAtDeskOf who (told_in faults desks name) (told_in faults (set desks index (desk.0, new)) name) × OthersStay name (told_in faults desks) (told_in faults (set desks index (desk.0, new))))) is_user (whole, others_stay)

-- some desks were asked so
pub somewhere : {D : Type 0} (faults : D → ℕ) (tells : Type 0) (request : Request) (s : SessionValue) (reply : Reply) (behind : SessionValue) (desks new : List (List ℕ × DeskValue D)) → Asked tells request (told_in faults desks) s reply (told_in faults new) behind → AskedSomewhere tells (has_desk desks) request s reply behind
somewhere faults tells request s reply behind desks new asked = record { old = told_in faults desks; new = told_in faults new; users_are = told_users faults desks; asked = asked }
