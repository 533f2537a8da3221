-- The users for whom a mail may wait, and names that are left among others.
use Rattle.std.proofs.Common.{◌≡◌, ℕ, suc, ◌+◌, ◌<◌, ◌≤◌, Bool, true, false, cond, not, ◌&&◌, ◌||◌, nat_lt, List, [], ◌∷◌, length, filter, Some, MatchOption, refl, sym, ap, ◌∙◌, arith, true≢false}
use Rattle.std.specs.List.{list_all, AllByRecursion as Every}
use Rattle.std.specs.Map.{lookup, keys_of}
use Rattle.std.proofs.lemmas.Bool.{ltb-true, ltb-false, lt-ltb, and_parts, and_from}
use Rattle.pc_tables.specs.Table.{same, is_among, other_names}
use Rattle.pc_tables.specs.Order.{AreDistinct}
use Rattle.pc_tables.proofs.Table.{same-true, same-refl, same-sym, length-keys}
use Rattle.pc_tables.proofs.Totals.{total-among, length-ones}
use Rattle.pc_tables.proofs.Lists.{length-filter-le}
use Rattle.pc_office_spelling.specs.Spaces.{space_upto, open_users}
use Rattle.pc_office_spelling.proofs.Waits.{IsBelow}
use Rattle.pc_fields.proofs.NewNames.{or-second, differs-among}

-- ---- the users for whom a mail of a number may wait

module _ (space : List ℕ → ℕ) (number : ℕ) where
  abbrev is_open : List ℕ × ℕ → Bool
  is_open user = nat_lt user.1 number && nat_lt 0 (space user.0)

  others-differ : (name : List ℕ) (users : List (List ℕ × ℕ)) → Every (λ (later : List ℕ). same name later ≡ false) (keys_of users) → Every (λ (later : List ℕ). same name later ≡ false) (open_users space users number)
  others-differ name [] differs = tt
  others-differ name (user ∷ users) differs =
      elim (is_open user) as (λ b. Every (λ (later : List ℕ). same name later ≡ false) (keys_of (cond b (user ∷ filter is_open users) (filter is_open users)))) [
        | true ↦ (differs.0, others-differ name users differs.1)
        | false ↦ others-differ name users differs.1
      ]

  pub open-distinct : (users : List (List ℕ × ℕ)) → AreDistinct (keys_of users) → AreDistinct (open_users space users number)
  open-distinct [] distinct = tt
  open-distinct (user ∷ users) distinct =
      elim (is_open user) as (λ b. AreDistinct (keys_of (cond b (user ∷ filter is_open users) (filter is_open users)))) [
        | true ↦ (others-differ user.0 users distinct.0, open-distinct users distinct.1)
        | false ↦ open-distinct users distinct.1
      ]

  pub open-all : (p : List ℕ → Bool) (users : List (List ℕ × ℕ)) → list_all p (keys_of users) ≡ true → list_all p (open_users space users number) ≡ true
  open-all p [] all = all
  open-all p (user ∷ users) all =
      let parts = and_parts (p user.0) (list_all p (keys_of users)) all in
      let rest = open-all p users parts.1 in
      elim (is_open user) as (λ b. list_all p (keys_of (cond b (user ∷ filter is_open users) (filter is_open users))) ≡ true) [
        | true ↦ and_from (p user.0) (list_all p (open_users space users number)) parts.0 rest
        | false ↦ rest
      ]

  pub open-few : (users : List (List ℕ × ℕ)) → length (open_users space users number) ≤ length users
  open-few users =
      let keys = length-keys (filter is_open users) in
      let fewer = length-filter-le is_open users in
      omega (arith, keys, fewer)

  pub open-among : (name : List ℕ) (users : List (List ℕ × ℕ)) → is_among name (open_users space users number) ≡ true → is_among name (keys_of users) ≡ true
  open-among name [] among = among
  open-among name (user ∷ users) among =
      elim (is_open user) as (λ b. is_among name (keys_of (cond b (user ∷ filter is_open users) (filter is_open users))) ≡ true → (same name user.0 || is_among name (keys_of users)) ≡ true) [
        | true ↦ λ is.
            elim (same name user.0) as (λ b. (b || is_among name (open_users space users number)) ≡ true → (b || is_among name (keys_of users)) ≡ true) [ true ↦ λ _. refl | false ↦ λ rest. open-among name users rest ] is
        | false ↦ λ is. or-second (same name user.0) (is_among name (keys_of users)) (open-among name users is)
      ] among

  -- less is noted of one of them, and for it there is space
  pub open-below : (name : List ℕ) (users : List (List ℕ × ℕ)) → AreDistinct (keys_of users) → is_among name (open_users space users number) ≡ true → IsBelow users number name × (nat_lt 0 (space name) ≡ true)
  open-below name [] distinct among = absurd (true≢false (sym among))
  open-below name (user ∷ users) distinct among =
      elim (is_open user) as (λ b. is_open user ≡ b → is_among name (keys_of (cond b (user ∷ filter is_open users) (filter is_open users))) ≡ true → IsBelow (user ∷ users) number name × (nat_lt 0 (space name) ≡ true)) [
        | true ↦ λ e is. here e is (λ more. open-below name users distinct.1 more)
        | false ↦ λ e is. there is (open-below name users distinct.1 is)
      ] refl among
    where
      there : is_among name (open_users space users number) ≡ true → IsBelow users number name × (nat_lt 0 (space name) ≡ true) → IsBelow (user ∷ users) number name × (nat_lt 0 (space name) ≡ true)
      there is rest =
          let differs : same name user.0 ≡ false = same-sym name user.0 ∙ differs-among user.0 name (keys_of users) distinct.0 (open-among name users is) in
          (rw differs rest.0, rest.1)

      here : is_open user ≡ true → (same name user.0 || is_among name (open_users space users number)) ≡ true → (is_among name (open_users space users number) ≡ true → IsBelow users number name × (nat_lt 0 (space name) ≡ true))
          → IsBelow (user ∷ users) number name × (nat_lt 0 (space name) ≡ true)
      here e is deeper =
          elim (same name user.0) as (λ b. same name user.0 ≡ b → (b || is_among name (open_users space users number)) ≡ true → IsBelow (user ∷ users) number name × (nat_lt 0 (space name) ≡ true)) [
            | true ↦ λ f _.
                let parts = and_parts (nat_lt user.1 number) (nat_lt 0 (space user.0)) e in
                let low = ltb-true user.1 number parts.0 in
                (rw f low, ap (λ (n : List ℕ). nat_lt 0 (space n)) (same-true name user.0 f) ∙ parts.1)
            | false ↦ λ f rest. there rest (deeper rest)
          ] refl is

  pub below-open : (name : List ℕ) (users : List (List ℕ × ℕ)) → IsBelow users number name → nat_lt 0 (space name) ≡ true → is_among name (open_users space users number) ≡ true
  below-open name [] below some = absurd below
  below-open name (user ∷ users) below some =
      elim (same name user.0) as (λ b. same name user.0 ≡ b → MatchOption (cond b (Some user.1) (lookup (same name) users)) ⊥ (λ noted. noted < number) → is_among name (open_users space (user ∷ users) number) ≡ true) [
        | true ↦ λ e low.
            let has : nat_lt 0 (space user.0) ≡ true = ap (λ (n : List ℕ). nat_lt 0 (space n)) (sym (same-true name user.0 e)) ∙ some in
            let opens = and_from (nat_lt user.1 number) (nat_lt 0 (space user.0)) (lt-ltb user.1 number low) has in
            ap (λ (b : Bool). is_among name (keys_of (cond b (user ∷ filter is_open users) (filter is_open users)))) opens ∙ ap (λ (b : Bool). b || is_among name (open_users space users number)) e
        | false ↦ λ e low.
            let rest = below-open name users low some in
            elim (is_open user) as (λ b. is_among name (keys_of (cond b (user ∷ filter is_open users) (filter is_open users))) ≡ true) [
              | true ↦ or-second (same name user.0) (is_among name (open_users space users number)) rest
              | false ↦ rest
            ]
      ] refl below

  -- where there is space there is somebody
  pub open-some : (users : List (List ℕ × ℕ)) → 0 < space_upto space users number → 0 < length (open_users space users number)
  open-some [] some = some
  open-some (user ∷ users) some =
      elim (nat_lt user.1 number) as (λ a. 0 < cond a (space user.0) 0 + space_upto space users number → 0 < length (keys_of (cond (a && nat_lt 0 (space user.0)) (user ∷ filter is_open users) (filter is_open users)))) [
        | true ↦ λ h.
            elim (nat_lt 0 (space user.0)) as (λ b. nat_lt 0 (space user.0) ≡ b → 0 < length (keys_of (cond b (user ∷ filter is_open users) (filter is_open users)))) [
              | true ↦ λ e. omega arith
              | false ↦ λ e. let none = ltb-false 0 (space user.0) e in open-some users (omega (arith, h, none))
            ] refl
        | false ↦ λ h. open-some users (omega (arith, h))
      ] some
