-- Users and their rows.
use Rattle.std.proofs.Common.{◌≡◌, ℕ, ◌<◌, ◌≤◌, Bool, true, false, cond, ◌&&◌, ◌||◌, nat_lt, List, [], ◌∷◌, filter, Option, None, Some, is_some, refl, sym, ap, ◌∙◌, arith}
use Rattle.std.specs.List.{AllByRecursion as Every}
use Rattle.std.specs.Option.{option_map_or}
use Rattle.std.specs.Map.{lookup, keys_of}
use Rattle.std.proofs.lemmas.Bool.{or_parts, ltb-true, lt-ltb}
use Rattle.pc_tables.specs.Table.{same, is_among}
use Rattle.pc_tables.specs.Order.{AreDistinct}
use Rattle.pc_tables.proofs.Table.{same-true}
use Rattle.pc_office_history.specs.declared.kept.Target.{Target}
use Rattle.pc_office_history.specs.Record.{target_of}
use Rattle.pc_office_spelling.specs.Spaces.{space_beside, users_of}
use Rattle.pc_office_holdings.specs.declared.users.Standing.{Standing}
use Rattle.pc_office_records.specs.ReadKept.{Table, is_open_in, open_in}

pub target-among : (user : List ℕ) (targets : List Target) → is_some (target_of user targets) ≡ is_among user (users_of targets)
target-among user [] = refl
target-among user (target ∷ targets) = elim (same user target.user) as (λ b. is_some (cond b (Some target) (target_of user targets)) ≡ (b || is_among user (users_of targets))) [ true ↦ refl | false ↦ target-among user targets ]

pub none-among : (name : List ℕ) (names : List (List ℕ)) → Every (λ (other : List ℕ). same name other ≡ false) names → is_among name names ≡ false
none-among name [] h = refl
none-among name (other ∷ names) h = ap (λ (b : Bool). b || is_among name names) h.0 ∙ none-among name names h.1

-- a name that is the first user's is none of the others'
others-none : (name : List ℕ) (user : List ℕ × Standing) (users : Table) → AreDistinct (keys_of (user ∷ users)) → same name user.0 ≡ true → is_among name (keys_of users) ≡ false
others-none name user users distinct e = ap (λ (n : List ℕ). is_among n (keys_of users)) (same-true name user.0 e) ∙ none-among user.0 (keys_of users) distinct.0

-- ---- who is open

abbrev pub is_open_with : ℕ → Standing → Bool
is_open_with number standing = nat_lt standing.noted number && nat_lt 0 (space_beside standing.mails standing.weight)

module _ (number : ℕ) where
  none-open : (name : List ℕ) (users : Table) → is_among name (keys_of users) ≡ false → is_among name (open_in users number) ≡ false
  none-open name [] none = refl
  none-open name (user ∷ users) none =
      let parts = or_parts (same name user.0) (is_among name (keys_of users)) none in
      let rest = none-open name users parts.1 in
      elim (is_open_in number user) as (λ b. is_among name (keys_of (cond b (user ∷ filter (is_open_in number) users) (filter (is_open_in number) users))) ≡ false) [
        | true ↦ ap (λ (b : Bool). b || is_among name (open_in users number)) parts.0 ∙ rest
        | false ↦ rest
      ]

  pub open-lookup : (name : List ℕ) (users : Table) → AreDistinct (keys_of users) → is_among name (open_in users number) ≡ option_map_or (is_open_with number) (lookup (same name) users) false
  open-lookup name [] distinct = refl
  open-lookup name (user ∷ users) distinct =
      let rest = open-lookup name users distinct.1 in
      elim (same name user.0) as (λ b. same name user.0 ≡ b → is_among name (keys_of (cond (is_open_in number user) (user ∷ filter (is_open_in number) users) (filter (is_open_in number) users))) ≡ option_map_or (is_open_with number) (cond b (Some user.1) (lookup (same name) users)) false) [
        | true ↦ λ e.
            let other = none-open name users (others-none name user users distinct e) in
            elim (is_open_in number user) as (λ b. is_among name (keys_of (cond b (user ∷ filter (is_open_in number) users) (filter (is_open_in number) users))) ≡ b) [
              | true ↦ ap (λ (b : Bool). b || is_among name (open_in users number)) e
              | false ↦ other
            ]
        | false ↦ λ e.
            elim (is_open_in number user) as (λ b. is_among name (keys_of (cond b (user ∷ filter (is_open_in number) users) (filter (is_open_in number) users))) ≡ option_map_or (is_open_with number) (lookup (same name) users) false) [
              | true ↦ ap (λ (b : Bool). b || is_among name (open_in users number)) e ∙ rest
              | false ↦ rest
            ]
      ] refl

-- a user was looked up
pub open-by : (number : ℕ) (name : List ℕ) (users : Table) (found : Option Standing) → AreDistinct (keys_of users) → found ≡ lookup (same name) users → option_map_or (is_open_with number) found false ≡ is_among name (open_in users number)
open-by number name users found distinct is = ap (λ (o : Option Standing). option_map_or (is_open_with number) o false) is ∙ sym (open-lookup number name users distinct)

-- ---- a user was looked up, and tested

ltb-no : (m n : ℕ) → n ≤ m → nat_lt m n ≡ false
ltb-no m n le = by-test (nat_lt m n) refl
  where
    by-test : (b : Bool) → nat_lt m n ≡ b → b ≡ false
    by-test true e = absurd (let lt = ltb-true m n e in omega (arith, lt, le))
    by-test false e = refl

module _ (number : ℕ) (name : List ℕ) (users : Table) (found : Option Standing) (standing : Standing) (distinct : AreDistinct (keys_of users)) (got : found ≡ lookup (same name) users) (some : found ≡ Some standing) where
  is-open : is_open_with number standing ≡ is_among name (open_in users number)
  is-open = ap (λ (o : Option Standing). option_map_or (is_open_with number) o false) (sym some) ∙ open-by number name users found distinct got

  pub open-yes : standing.noted < number → nat_lt 0 (space_beside standing.mails standing.weight) ≡ is_among name (open_in users number)
  open-yes lt = ap (λ (b : Bool). b && nat_lt 0 (space_beside standing.mails standing.weight)) (sym (lt-ltb standing.noted number lt)) ∙ is-open

  pub open-no : number ≤ standing.noted → nat_lt standing.noted number ≡ is_among name (open_in users number)
  open-no le = ltb-no standing.noted number le ∙ ap (λ (b : Bool). b && nat_lt 0 (space_beside standing.mails standing.weight)) (sym (ltb-no standing.noted number le)) ∙ is-open

pub open-none : (number : ℕ) (name : List ℕ) (users : Table) (found : Option Standing) → AreDistinct (keys_of users) → found ≡ lookup (same name) users → found ≡ None → false ≡ is_among name (open_in users number)
open-none number name users found distinct got none = ap (λ (o : Option Standing). option_map_or (is_open_with number) o false) (sym none) ∙ open-by number name users found distinct got
