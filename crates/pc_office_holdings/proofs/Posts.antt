-- What a message adds to a board, and to what is counted of all.
use Rattle.std.proofs.Common.{◌≡◌, ℕ, suc, ◌+◌, ◌%◌, true, false, cond, ◌||◌, List, [], ◌∷◌, ◌++◌, slice_get, Some, refl, sym, ap, ◌∙◌, arith}
use Rattle.std.specs.List.{list_any}
use Rattle.std.specs.Map.{keys_of, values_of}
use Rattle.indexmap.specs.IndexMap.{set_value_at}
use Rattle.pc_message.specs.Message.{weight_of}
use Rattle.pc_tables.specs.Table.{same, is_among, total}
use Rattle.pc_tables.proofs.Table.{same-sym}
use Rattle.pc_tables.proofs.Totals.{total-append}
use Rattle.pc_office_holdings.specs.Held.{weight_on, weight_on_all}
use Rattle.pc_tables.specs.Fronts.{front_mapped}
use Rattle.pc_office_holdings.specs.Step.{posted}
use Rattle.pc_tables.proofs.Fronts.{front-kept, front-set, entry-at, total-set-at}

abbrev pub Board : Type 0
Board = List ℕ × List (List (List ℕ))

-- a name is among others where one of them is the same
pub among-either : (name : List ℕ) (names : List (List ℕ)) → list_any (λ (other : List ℕ). same other name) names ≡ is_among name names
among-either name [] = refl
among-either name (other ∷ names) = λ i. same-sym other name i || among-either name names i

module _ (sum weight : ℕ) (table : List Board) where
  -- a board more is weighed
  pub weighed-put : (board : List ℕ) (messages : List (List (List ℕ))) (entries : List Board) → weight ≡ total weight_of messages % 18446744073709551616 → entries ≡ table ++ (board, messages) ∷ [] → sum ≡ weight_on_all table % 18446744073709551616 → (sum + weight) % 18446744073709551616 ≡ weight_on_all entries % 18446744073709551616
  weighed-put board messages entries is put counted =
      let all : weight_on_all entries ≡ weight_on_all table + weight_on_all ((board, messages) ∷ []) = ap weight_on_all put ∙ total-append weight_on table ((board, messages) ∷ []) in
      let one : weight_on_all ((board, messages) ∷ []) ≡ total weight_of messages = omega arith in
      omega (arith, one, all, counted, is)

  -- a message more is weighed
  pub weighed-more : (place : ℕ) (message copy : List (List ℕ)) (old new : List (List (List ℕ))) → copy ≡ message → new ≡ old ++ copy ∷ [] → weight ≡ weight_of message → Some old ≡ slice_get (values_of table) place → sum ≡ weight_on_all table % 18446744073709551616 → (sum + weight) % 18446744073709551616 ≡ weight_on_all (set_value_at table place new) % 18446744073709551616
  weighed-more place message copy old new same-message more is found counted =
      let longer : total weight_of new ≡ total weight_of old + total weight_of (copy ∷ []) = ap (total weight_of) more ∙ total-append weight_of old (copy ∷ []) in
      let one : total weight_of (copy ∷ []) ≡ weight = ap (λ m. total weight_of (m ∷ [])) same-message ∙ (let last : total weight_of (message ∷ []) ≡ weight_of message = omega arith in last) ∙ sym is in
      let all = total-set-at (total weight_of) table place old new (sym found) in
      omega (arith, longer, one, all, counted)

-- the front grows by a board that isn't named
pub unposted : (names message : List (List ℕ)) (place : ℕ) (all : List Board) (board : Board) → is_among board.0 names ≡ false → slice_get (front_mapped (posted names message) place all) place ≡ Some board → front_mapped (posted names message) place all ≡ front_mapped (posted names message) (suc place) all
unposted names message place all board other found = front-kept (posted names message) place all board found (ap (λ b. (board.0, cond b (board.1 ++ message ∷ []) board.1)) other)

-- the front grows by a board that is named
pub posted-one : (names message copy : List (List ℕ)) (place : ℕ) (table inside all : List Board) (name : List ℕ) (old new : List (List (List ℕ))) → inside ≡ table → table ≡ front_mapped (posted names message) place all → slice_get (keys_of inside) place ≡ Some name → is_among name names ≡ true → Some old ≡ slice_get (values_of inside) place → copy ≡ message → new ≡ old ++ copy ∷ [] → set_value_at inside place new ≡ front_mapped (posted names message) (suc place) all
posted-one names message copy place table inside all name old new same e key named value same-message more =
    let found = entry-at inside place name old key (sym value) in
    let changed : posted names message (name, old) ≡ (name, new) = ap (λ b. (name, cond b (old ++ message ∷ []) old)) named ∙ ap (λ messages. (name, messages)) (ap (λ m. old ++ m ∷ []) (sym same-message) ∙ sym more) in
    ap (λ (t : List Board). set_value_at t place new) (same ∙ e) ∙ front-set (posted names message) place all (name, old) new (ap (λ (t : List Board). slice_get t place) (sym e ∙ sym same) ∙ found) changed
