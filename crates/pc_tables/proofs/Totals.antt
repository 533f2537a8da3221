-- Sums over the items of a list.
use Rattle.std.proofs.Common.{◌≡◌, ℕ, zero, suc, Bool, true, false, cond, not, ◌||◌, List, [], ◌∷◌, ◌++◌, take, get_or, refl, sym, ap, true≢false, ◌+◌, ◌<◌, ◌≤◌, length, filter, arith, le_refl, Option, Some, ◌*◌}
use Rattle.std.specs.Map.{keys_of, lookup, set_value, remove_entry}
use Rattle.std.specs.List.{AllByRecursion as Every}
use Rattle.pc_tables.specs.Table.{same, is_among, other_names, total}
use Rattle.pc_tables.proofs.Table.{same-true}
use Rattle.std.proofs.Math.Nat.{suc-mul}
use Rattle.pc_tables.proofs.Options.{some-none, some-same}

pub total-append : {X : Type 0} (f : X → ℕ) (xs ys : List X) → total f (xs ++ ys) ≡ total f xs + total f ys
total-append f [] ys = omega arith
total-append f (x ∷ xs) ys = omega (arith, total-append f xs ys)

pub total-le : {X : Type 0} (f g : X → ℕ) (xs : List X) → ((x : X) → g x ≤ f x) → total g xs ≤ total f xs
total-le f g [] h = le_refl 0
total-le f g (x ∷ xs) h = omega (arith, h x, total-le f g xs h)

pub total-filter : {X : Type 0} (f : X → ℕ) (p : X → Bool) (xs : List X) → total f (filter p xs) ≤ total f xs
total-filter f p [] = le_refl 0
total-filter f p (x ∷ xs) = elim (p x) as (λ b. total f (cond b (x ∷ filter p xs) (filter p xs)) ≤ f x + total f xs) [ true ↦ omega (arith, total-filter f p xs) | false ↦ omega (arith, total-filter f p xs) ]

-- a name that is among others counts once more with them than without
pub total-among : (f : List ℕ → ℕ) (name : List ℕ) (names : List (List ℕ)) → is_among name names ≡ true → total f (other_names name names) + f name ≤ total f names
total-among f name [] h = absurd (true≢false (sym h))
total-among f name (x ∷ xs) h = elim (same name x) as (λ b. same name x ≡ b → (b || is_among name xs) ≡ true → total f (cond (not b) (x ∷ other_names name xs) (other_names name xs)) + f name ≤ f x + total f xs) [
  | true ↦ λ e g. let here : f name ≡ f x = ap f (same-true name x e) in omega (arith, total-filter f (λ other. not (same name other)) xs, here)
  | false ↦ λ e g. omega (arith, total-among f name xs g)
] refl h

pub length-ones : {X : Type 0} (xs : List X) → length xs ≡ total (λ _. 1) xs
length-ones [] = refl
length-ones (x ∷ xs) = omega (arith, length-ones xs)

pub total-keys : {X : Type 0} (f : List ℕ → ℕ) (g : X → ℕ) (table : List (List ℕ × X)) → Every (λ (entry : List ℕ × X). f entry.0 ≡ g entry.1) table → total f (keys_of table) ≡ total (λ entry. g entry.1) table
total-keys f g [] h = refl
total-keys f g (entry ∷ table) h = λ i. h.0 i + total-keys f g table h.1 i

pub total-map : {X : Type 0} (f : List ℕ → ℕ) (table : List (List ℕ × X)) → total (λ entry. f entry.0) table ≡ total f (keys_of table)
total-map f [] = refl
total-map f (entry ∷ table) = ap (λ n. f entry.0 + n) (total-map f table)

-- ---- of the items so far

total-none : {X : Type 0} (f : X → ℕ) (xs : List X) → total f (take 0 xs) ≡ 0
total-none f [] = refl
total-none f (x ∷ xs) = refl

pub total-more : {X : Type 0} (f : X → ℕ) (xs : List X) (i : ℕ) (d : X) → i < length xs → total f (take (suc i) xs) ≡ total f (take i xs) + f (get_or xs i d)
total-more f [] i d lt = absurd (omega (arith, lt))
total-more f (x ∷ xs) zero d lt = let none = total-none f xs in rw none (omega arith)
total-more f (x ∷ xs) (suc i) d lt = let more = total-more f xs i d (omega (arith, lt)) in rw more (omega arith)

-- a sum over names that count alike
pub total-alike : {X : Type 0} (weight : ℕ) (xs : List X) → total (λ _. weight) xs ≡ length xs * weight
total-alike weight [] = omega arith
total-alike weight (x ∷ xs) = omega (arith, total-alike weight xs, suc-mul (length xs) weight)

-- ---- over tables

module _ {X : Type 0} (f : X → ℕ) (name : List ℕ) where
  abbrev held : List (List ℕ × X) → ℕ
  held table = total (λ (entry : List ℕ × X). f entry.1) table

  set-step : (b : Bool) (entry : List ℕ × X) (table rest : List (List ℕ × X)) (found : Option X) (old new : X) → (found ≡ Some old → held rest + f old ≡ held table + f new) → cond b (Some entry.1) found ≡ Some old → held (cond b ((entry.0, new) ∷ table) (entry ∷ rest)) + f old ≡ held (entry ∷ table) + f new
  set-step true entry table rest found old new h e = let is = ap f (some-same entry.1 old e) in omega (arith, is)
  set-step false entry table rest found old new h e = let more = h e in omega (arith, more)

  -- one value in place of another
  pub total-set : (table : List (List ℕ × X)) (old new : X) → lookup (same name) table ≡ Some old → held (set_value (same name) table new) + f old ≡ held table + f new
  total-set [] old new e = absurd (some-none old (sym e))
  total-set (entry ∷ table) old new e = set-step (same name entry.0) entry table (set_value (same name) table new) (lookup (same name) table) old new (total-set table old new) e

  removed-step : (b : Bool) (entry : List ℕ × X) (table rest : List (List ℕ × X)) (found : Option X) (old : X) → (found ≡ Some old → held rest + f old ≡ held table) → cond b (Some entry.1) found ≡ Some old → held (cond b table (entry ∷ rest)) + f old ≡ held (entry ∷ table)
  removed-step true entry table rest found old h e = let is = ap f (some-same entry.1 old e) in omega (arith, is)
  removed-step false entry table rest found old h e = let more = h e in omega (arith, more)

  -- one value less
  pub total-removed : (table : List (List ℕ × X)) (old : X) → lookup (same name) table ≡ Some old → held (remove_entry (same name) table) + f old ≡ held table
  total-removed [] old e = absurd (some-none old (sym e))
  total-removed (entry ∷ table) old e = removed-step (same name entry.0) entry table (remove_entry (same name) table) (lookup (same name) table) old (total-removed table old) e
