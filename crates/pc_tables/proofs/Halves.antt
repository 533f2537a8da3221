-- Items by a number that rises: where a search by halves parts them.
use Rattle.std.proofs.Common.{◌≡◌, ℕ, zero, suc, ◌<◌, ◌≤◌, nat_lt, Bool, true, false, not, List, [], ◌∷◌, take, drop, length, get_or, refl, sym, ap, arith}
use Rattle.std.specs.List.{filter, AllByRecursion as Every}
use Rattle.std.specs.List.Sorted.{IsNonDecreasingBy}
use Rattle.std.proofs.lemmas.Bool.{ltb-true, ltb-false, not-true}
use Rattle.pc_tables.specs.Order.{Ordered}
use Rattle.pc_tables.proofs.Lists.{Every-weaker, Every-passes}

module _ {X : Type 0} where
  at-every : (P : X → Type 0) (xs : List X) (i : ℕ) (d : X) → Every P xs → i < length xs → P (get_or xs i d)
  at-every P [] i d h lt = absurd (omega (arith, lt))
  at-every P (x ∷ xs) zero d h lt = h.0
  at-every P (x ∷ xs) (suc i) d h lt = at-every P xs i d h.1 (omega (arith, lt))

module _ {X : Type 0} (number : X → ℕ) where
  rise-at : (xs : List X) (i j : ℕ) (d : X) → Ordered (λ (x later : X). number x < number later) xs → i ≤ j → j < length xs → number (get_or xs i d) ≤ number (get_or xs j d)
  rise-at [] i j d h le lt = absurd (omega (arith, lt))
  rise-at (x ∷ xs) zero zero d h le lt = omega arith
  rise-at (x ∷ xs) zero (suc j) d h le lt = let later = at-every (λ (later : X). number x < number later) xs j d h.0 (omega (arith, lt)) in omega (arith, later)
  rise-at (x ∷ xs) (suc i) zero d h le lt = absurd (omega (arith, le))
  rise-at (x ∷ xs) (suc i) (suc j) d h le lt = rise-at xs i j d h.1 (omega (arith, le)) (omega (arith, lt))

  pub numbers-rise_by : (xs : List X) → Ordered (λ (x later : X). number x < number later) xs → IsNonDecreasingBy number xs
  numbers-rise_by xs h i j d le lt = rise-at xs i j d h le lt

  -- those below a bound, and the others
  pub filter-below : (bound : ℕ) (xs : List X) → Every (λ (x : X). number x < bound) (filter (λ (x : X). nat_lt (number x) bound) xs)
  filter-below bound xs = Every-weaker (λ (x : X). nat_lt (number x) bound ≡ true) (λ (x : X). number x < bound) (λ x h. ltb-true (number x) bound h) (filter (λ (x : X). nat_lt (number x) bound) xs) (Every-passes (λ (x : X). nat_lt (number x) bound) xs)

  pub filter-from : (bound : ℕ) (xs : List X) → Every (λ (x : X). bound ≤ number x) (filter (λ (x : X). not (nat_lt (number x) bound)) xs)
  filter-from bound xs = Every-weaker (λ (x : X). not (nat_lt (number x) bound) ≡ true) (λ (x : X). bound ≤ number x) (λ x h. ltb-false (number x) bound (not-true (nat_lt (number x) bound) h)) (filter (λ (x : X). not (nat_lt (number x) bound)) xs) (Every-passes (λ (x : X). not (nat_lt (number x) bound)) xs)

module _ {X : Type 0} (p : X → Bool) where
  none-pass : (xs : List X) → ((k : ℕ) (d : X) → k < length xs → p (get_or xs k d) ≡ false) → (filter p xs ≡ []) × (filter (λ (x : X). not (p x)) xs ≡ xs)
  none-pass [] h = (refl, refl)
  none-pass (x ∷ xs) h =
      let rest = none-pass xs (λ k d lt. h (suc k) d (omega (arith, lt))) in
      let first : p x ≡ false = h 0 x (omega arith) in
      (rw first rest.0, rw first (ap (λ (l : List X). x ∷ l) rest.1))

  -- those in front of the point pass the test, and those behind it don't
  pub parted : (xs : List X) (i : ℕ) → i ≤ length xs → ((k : ℕ) (d : X) → k < i → p (get_or xs k d) ≡ true) → ((k : ℕ) (d : X) → i ≤ k → k < length xs → p (get_or xs k d) ≡ false) → (take i xs ≡ filter p xs) × (drop i xs ≡ filter (λ (x : X). not (p x)) xs)
  parted xs zero le before behind = let none = none-pass xs (λ k d lt. behind k d (omega arith) lt) in (sym none.0, sym none.1)
  parted [] (suc i) le before behind = absurd (omega (arith, le))
  parted (x ∷ xs) (suc i) le before behind =
      let rest = parted xs i (omega (arith, le)) (λ k d lt. before (suc k) d (omega (arith, lt))) (λ k d l lt. behind (suc k) d (omega (arith, l)) (omega (arith, lt))) in
      let first : p x ≡ true = before 0 x (omega arith) in
      (rw first (ap (λ (l : List X). x ∷ l) rest.0), rw first rest.1)
