-- Sums over tables that were changed.
use Rattle.std.proofs.Common.{◌≡◌, ℕ, ◌+◌, Bool, true, false, cond, not, List, [], ◌∷◌, map, Option, None, Some, is_some, refl, sym, ap, subst, arith, true≢false}
use Rattle.std.specs.Map.{lookup, set_value, keys_of}
use Rattle.std.specs.List.{AllByRecursion as Every}
use Rattle.pc_tables.specs.Table.{same, others, map_values, total}
use Rattle.pc_tables.specs.Order.{AreDistinct}
use Rattle.pc_tables.proofs.Table.{same-true, lookup-absent, others-absent}
use Rattle.pc_tables.proofs.Options.{some-same, some-none}

module _ {X : Type 0} (f : X → ℕ) where
  abbrev summed : List (List ℕ × X) → ℕ
  summed table = total (λ (entry : List ℕ × X). f entry.1) table

  pub sum-set_value : (p : List ℕ → Bool) (table : List (List ℕ × X)) (old new : X) → Some old ≡ lookup p table → total (λ (entry : List ℕ × X). f entry.1) (set_value p table new) + f old ≡ total (λ (entry : List ℕ × X). f entry.1) table + f new
  sum-set_value p [] old new h = absurd (some-none old h)
  sum-set_value p (entry ∷ table) old new h = by_test (p entry.0) (λ g. sum-set_value p table old new g) h
    where
      by_test : (b : Bool) → (Some old ≡ lookup p table → summed (set_value p table new) + f old ≡ summed table + f new) → Some old ≡ cond b (Some entry.1) (lookup p table) → summed (cond b ((entry.0, new) ∷ table) (entry ∷ set_value p table new)) + f old ≡ (f entry.1 + summed table) + f new
      by_test true ih g = let e = ap f (some-same old entry.1 g) in omega (arith, e)
      by_test false ih g = let rest = ih g in omega (arith, rest)

  pub sum-others : (name : List ℕ) (table : List (List ℕ × X)) (old : X) → AreDistinct (keys_of table) → Some old ≡ lookup (same name) table → summed (others name table) + f old ≡ summed table
  sum-others name [] old d h = absurd (some-none old h)
  sum-others name (entry ∷ table) old d h = by_test (same name entry.0) refl (λ g. sum-others name table old d.1 g) h
    where
      apart : same name entry.0 ≡ true → Every (λ (other : List ℕ). same name other ≡ false) (keys_of table)
      apart e = rw (same-true name entry.0 e) d.0

      by_test : (b : Bool) → same name entry.0 ≡ b → (Some old ≡ lookup (same name) table → summed (others name table) + f old ≡ summed table) → Some old ≡ cond b (Some entry.1) (lookup (same name) table) → summed (cond (not b) (entry ∷ others name table) (others name table)) + f old ≡ f entry.1 + summed table
      by_test true e ih g =
          let here = ap f (some-same old entry.1 g) in
          let rest = ap (λ (t : List (List ℕ × X)). summed t) (others-absent name table (lookup-absent name table (apart e))) in
          omega (arith, here, rest)
      by_test false e ih g = let rest = ih g in omega (arith, rest)

  pub sum-map_values : {Y : Type 0} (g : Y → X) (table : List (List ℕ × Y)) → summed (map_values g table) ≡ total (λ (entry : List ℕ × Y). f (g entry.1)) table
  sum-map_values g [] = refl
  sum-map_values g (entry ∷ table) = ap (λ n. f (g entry.1) + n) (sum-map_values g table)

absent-step : {X : Type 0} (p : List ℕ → Bool) (entry : List ℕ × X) (table : List (List ℕ × X)) (value : X) (b : Bool) → cond b (Some entry.1) (lookup p table) ≡ None → (lookup p table ≡ None → set_value p table value ≡ table) → cond b ((entry.0, value) ∷ table) (entry ∷ set_value p table value) ≡ entry ∷ table
absent-step p entry table value true h ih = absurd (some-none entry.1 h)
absent-step p entry table value false h ih = ap (λ rest. entry ∷ rest) (ih h)

pub set_value-absent : {X : Type 0} (p : List ℕ → Bool) (table : List (List ℕ × X)) (value : X) → lookup p table ≡ None → set_value p table value ≡ table
set_value-absent p [] value h = refl
set_value-absent p (entry ∷ table) value h = absent-step p entry table value (p entry.0) h (λ g. set_value-absent p table value g)

found-step : {X : Type 0} (P : X → Type 0) (entry : List ℕ × X) (rest : Option X) (value : X) (b : Bool) → P entry.1 → (Some value ≡ rest → P value) → Some value ≡ cond b (Some entry.1) rest → P value
found-step P entry rest value true here ih h = subst P (sym (some-same value entry.1 h)) here
found-step P entry rest value false here ih h = ih h

pub Every-lookup : {X : Type 0} (P : X → Type 0) (p : List ℕ → Bool) (table : List (List ℕ × X)) → Every (λ (entry : List ℕ × X). P entry.1) table → (value : X) → Some value ≡ lookup p table → P value
Every-lookup P p [] h value found = absurd (some-none value found)
Every-lookup P p (entry ∷ table) h value found = found-step P entry (lookup p table) value (p entry.0) h.0 (λ g. Every-lookup P p table h.1 value g) found

pub none-from : {X : Type 0} (found : Option X) → is_some found ≡ false → found ≡ None
none-from None h = refl
none-from (Some x) h = absurd (true≢false h)

-- a sum over the values of a table, once all were gone over
pub sum-values : {X : Type 0} (f : X → ℕ) (table : List (List ℕ × X)) → total f (map (λ (entry : List ℕ × X). entry.1) table) ≡ total (λ (entry : List ℕ × X). f entry.1) table
sum-values f [] = refl
sum-values f (entry ∷ table) = ap (λ n. f entry.1 + n) (sum-values f table)

pub sum-whole : {X : Type 0} (f : X → ℕ) (sum : ℕ) (left all : List X) (entries table : List (List ℕ × X)) → sum + total f left ≡ total f all → left ≡ [] → all ≡ map (λ (entry : List ℕ × X). entry.1) entries → entries ≡ table → sum ≡ total (λ (entry : List ℕ × X). f entry.1) table
sum-whole {X = X} f sum left all entries table whole none gone same_table =
    let nothing = ap (total f) none in
    let values = ap (total f) gone in
    let one_by_one = sum-values f entries in
    let there = ap (total (λ (entry : List ℕ × X). f entry.1)) same_table in
    omega (arith, whole, nothing, values, one_by_one, there)
