-- The boards among names, counted one after the other.
use Rattle.std.proofs.Common.{◌≡◌, ℕ, suc, ◌+◌, ◌-◌, ◌*◌, ◌<◌, ◌≤◌, ◌^◌, min, Bool, false, cond, ◌||◌, nat_lt, nat_le, List, ◌∷◌, length, drop, get_or, filter, Option, None, Some, is_some, sym, ◌∙◌, ap, arith, ltb-false, lt-ltb, le-ltb, inl, inr}
use Rattle.std.specs.Option.{option_map_or}
use Rattle.std.specs.List.{list_any}
use Rattle.std.specs.Map.{lookup}
use Rattle.std.proofs.Math.Nat.{suc-mul}
use Rattle.std.proofs.Math.Numerals.{add-one}
use Rattle.std.proofs.Math.Seq.{drop-cons}
use Rattle.std.proofs.lemmas.Bool.{lt-leb, or_parts, cases_lt}
use Rattle.std.proofs.lemmas.List.{drop_all}
use Rattle.pc_tables.specs.Table.{same}
use Rattle.pc_office_history.specs.declared.limits.TheConstants.{MOST_BOARD_MESSAGES, MOST_BOARD_WEIGHT}
use Rattle.pc_office_history.specs.Known.{said_by}
use Rattle.pc_office_history.specs.Limits.{board_weight}
use Rattle.pc_office_history.specs.Legal.{IsCanonical}
use Rattle.pc_office_history.proofs.Names.{read-off}
use Rattle.pc_office_holdings.specs.Held.{Held, record_in, weight_on_all}
use Rattle.pc_office.specs.Limits.{is_filled, board_count, are_full}

-- what all boards of a canonical record count for
pub weight-bounded : (held : Held) → IsCanonical (record_in held) → weight_on_all held.boards ≤ MOST_BOARD_WEIGHT
weight-bounded held canonical =
    let k = said_by (record_in held) in
    let few = ltb-false MOST_BOARD_WEIGHT (board_weight k) (or_parts _ (nat_lt MOST_BOARD_WEIGHT (board_weight k)) canonical.within.1.1.1.1.0).1 in
    omega (arith, few, (read-off (record_in held) canonical.well_formed).weight)

module _ (held : Held) (names : List (List ℕ)) (index : ℕ) (name : List ℕ) (lt : index < length names) (here : name ≡ get_or names index name) where
  abbrev later : List (List ℕ)
  later = drop (index + 1) names

  splits : drop index names ≡ name ∷ later
  splits = drop-cons names index name lt ∙ sym (λ i. here i ∷ drop (add-one index i) names)

  abbrev count-of : Option (List (List (List ℕ))) → ℕ
  count-of found = length (cond (is_some found) (name ∷ filter (λ other. is_some (lookup (same other) held.boards)) later) (filter (λ other. is_some (lookup (same other) held.boards)) later))

  abbrev any-of : Option (List (List (List ℕ))) → Bool
  any-of found = option_map_or (λ messages. nat_le MOST_BOARD_MESSAGES (length messages)) found false || list_any (is_filled held) later

  -- a board with room is one more
  pub counted-board : (messages : List (List (List ℕ))) → lookup (same name) held.boards ≡ Some messages → (more weight all : ℕ) → more + board_count held (drop index names) * weight ≡ all → (more + weight) + board_count held later * weight ≡ all
  counted-board messages found more weight all whole =
      let one : board_count held (drop index names) * weight ≡ suc (board_count held later) * weight = ap (λ rest. board_count held rest * weight) splits ∙ ap (λ o. count-of o * weight) found in
      omega (arith, one, suc-mul (board_count held later) weight, whole)

  pub filled-board : (messages : List (List (List ℕ))) → lookup (same name) held.boards ≡ Some messages → length messages < MOST_BOARD_MESSAGES → list_any (is_filled held) later ≡ list_any (is_filled held) (drop index names)
  filled-board messages found room = sym (ap (list_any (is_filled held)) splits ∙ ap any-of found ∙ ap (λ b. b || list_any (is_filled held) later) (lt-leb MOST_BOARD_MESSAGES (length messages) room))

  -- what is no board counts for nothing
  pub counted-other : lookup (same name) held.boards ≡ None → board_count held later ≡ board_count held (drop index names)
  counted-other none = sym (ap (board_count held) splits ∙ ap count-of none)

  pub filled-other : lookup (same name) held.boards ≡ None → list_any (is_filled held) later ≡ list_any (is_filled held) (drop index names)
  filled-other none = sym (ap (list_any (is_filled held)) splits ∙ ap any-of none)

-- a sum of 64 bits that stops at the most
not-stopped : (count most sum : ℕ) → sum ≡ min count most → MOST_BOARD_WEIGHT < most → nat_lt MOST_BOARD_WEIGHT sum ≡ nat_lt MOST_BOARD_WEIGHT count
not-stopped count most sum e below = elim (cases_lt MOST_BOARD_WEIGHT count) [
  | inl above ↦ lt-ltb MOST_BOARD_WEIGHT sum (omega (arith, e, above, below)) ∙ sym (lt-ltb MOST_BOARD_WEIGHT count above)
  | inr upto ↦ le-ltb MOST_BOARD_WEIGHT sum (omega (arith, e, upto, below)) ∙ sym (le-ltb MOST_BOARD_WEIGHT count upto)
]

-- once all names were gone over
pub full-at-end : (held : Held) (names : List (List ℕ)) (index more weight sum : ℕ) → length names ≤ index → more + board_count held (drop index names) * weight ≡ board_count held names * weight → list_any (is_filled held) (drop index names) ≡ list_any (is_filled held) names → sum ≡ min (weight_on_all held.boards + more) (2 ^ 64 - 1) → nat_lt MOST_BOARD_WEIGHT sum ≡ are_full weight held names
full-at-end held names index more weight sum end whole none stopped =
    let nothing = drop_all index names end in
    let count : more ≡ board_count held names * weight = omega (arith, ap (λ rest. board_count held rest * weight) nothing, whole) in
    let room : list_any (is_filled held) names ≡ false = sym none ∙ ap (list_any (is_filled held)) nothing in
    not-stopped (weight_on_all held.boards + more) (2 ^ 64 - 1) sum stopped (omega arith)
    ∙ ap (λ n. nat_lt MOST_BOARD_WEIGHT (weight_on_all held.boards + n)) count
    ∙ sym (ap (λ b. b || nat_lt MOST_BOARD_WEIGHT (weight_on_all held.boards + board_count held names * weight)) room)
