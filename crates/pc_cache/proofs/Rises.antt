-- Lists in order, and whether something comes twice in them.
use Rattle.std.proofs.Common.{◌≡◌, ℕ, suc, ◌<◌, ◌≤◌, Bool, true, false, not, ◌&&◌, List, [], ◌∷◌, length, get_or, ◌++◌, take, refl, sym, ◌∙◌, ap, arith, append-nil, true≢false}
use Rattle.std.specs.Prelude.{IsPermutation}
use Rattle.std.specs.Cmp.{IsEquivalence, IsStrictWeakOrder, both_ways}
use Rattle.std.specs.List.{AllByRecursion as Every, IsDistinct, list_any, refill}
use Rattle.std.proofs.lemmas.Bool.{and_parts, and_from, or_parts, not-true}
use Rattle.std.proofs.lemmas.List.{take_all, drop_all}
use Rattle.std.proofs.lemmas.List.Sorted.{IsPermutation-sym}
use Rattle.indexmap.proofs.MapLemmas.{distinct_permutation}
use Rattle.pc_tables.specs.Order.{Ordered}
use Rattle.pc_cache_history.specs.Allowed.{are_different}
use Rattle.pc_cache.specs.Rising.{rise_above, rise}

-- ---- what holds of each item and each later one

every-at : {X : Type 0} (P : X → Type 0) (xs : List X) → ((k : ℕ) (d : X) → k < length xs → P (get_or xs k d)) → Every P xs
every-at P [] f = tt
every-at P (x ∷ xs) f = (f 0 x (omega arith), every-at P xs (λ k d lt. f (suc k) d (omega (arith, lt))))

pub ordered-at : {X : Type 0} (R : X → X → Type 0) (xs : List X) → ((i j : ℕ) (d : X) → i ≤ j → j < length xs → R (get_or xs i d) (get_or xs j d)) → Ordered R xs
ordered-at R [] f = tt
ordered-at R (x ∷ xs) f = (every-at (R x) xs (λ k d lt. f 0 (suc k) d (omega arith) (omega (arith, lt))), ordered-at R xs (λ i j d le lt. f (suc i) (suc j) d (omega (arith, le)) (omega (arith, lt))))

-- ---- items that rise come once, and so do just those among items in order

module _ {X : Type 0} (below equal : X → X → Bool) (order : IsStrictWeakOrder below) (apart : (x y : X) → below x y ≡ true → equal x y ≡ false) (tied : (x y : X) → below x y ≡ false → below y x ≡ false → equal x y ≡ true) where
  further : (x y z : X) → below x y ≡ true → below y z ≡ true → below x z ≡ true
  further x y z a b = elim (below x z) as (λ r. below x z ≡ r → r ≡ true) [
    | true ↦ λ e. refl
    | false ↦ λ e. absurd (true≢false (sym a ∙ order.chain x z y e (order.one_way y z b)))
  ] refl

  none-equal : (x last : X) (xs : List X) → below x last ≡ true → rise_above below last xs ≡ true → list_any (equal x) xs ≡ false
  none-equal x last [] lt h = refl
  none-equal x last (next ∷ xs) lt h =
      let parts = and_parts (below last next) (rise_above below next xs) h in
      let past = further x last next lt parts.0 in
      rw (apart x next past) (none-equal x next xs past parts.1)

  above-differ : (last : X) (xs : List X) → rise_above below last xs ≡ true → are_different equal (last ∷ xs) ≡ true
  above-differ last [] h = refl
  above-differ last (next ∷ xs) h =
      let parts = and_parts (below last next) (rise_above below next xs) h in
      let other : list_any (equal last) (next ∷ xs) ≡ false = rw (apart last next parts.0) (none-equal last next xs parts.0 parts.1) in
      ap (λ b. not b && are_different equal (next ∷ xs)) other ∙ above-differ next xs parts.1

  pub rising-differ : (xs : List X) → rise below xs ≡ true → are_different equal xs ≡ true
  rising-differ [] h = refl
  rising-differ (x ∷ xs) h = above-differ x xs h

  must : (x y : X) → below y x ≡ false → equal x y ≡ false → below x y ≡ true
  must x y e other = elim (below x y) as (λ r. below x y ≡ r → r ≡ true) [
    | true ↦ λ g. refl
    | false ↦ λ g. absurd (true≢false (sym (tied x y g e) ∙ other))
  ] refl

  above-rise : (x : X) (xs : List X) → Ordered (λ (one later : X). below later one ≡ false) (x ∷ xs) → are_different equal (x ∷ xs) ≡ true → rise_above below x xs ≡ true
  above-rise x [] o h = refl
  above-rise x (y ∷ xs) o h =
      let parts = and_parts (not (list_any (equal x) (y ∷ xs))) (are_different equal (y ∷ xs)) h in
      let other = or_parts (equal x y) (list_any (equal x) xs) (not-true (list_any (equal x) (y ∷ xs)) parts.0) in
      and_from (below x y) (rise_above below y xs) (must x y o.0.0 other.0) (above-rise y xs o.1 parts.1)

  differ-rise : (xs : List X) → Ordered (λ (one later : X). below later one ≡ false) xs → are_different equal xs ≡ true → rise below xs ≡ true
  differ-rise [] o h = refl
  differ-rise (x ∷ xs) o h = above-rise x xs o h

  pub rise-exactly : (xs : List X) → Ordered (λ (one later : X). below later one ≡ false) xs → rise below xs ≡ are_different equal xs
  rise-exactly xs o = both_ways (rise below xs) (are_different equal xs) (rising-differ xs) (differ-rise xs o)

-- ---- in another order the same come twice

module _ {X : Type 0} {equal : X → X → Bool} (equivalence : IsEquivalence equal) where
  none-any : (x : X) (xs : List X) → list_any (equal x) xs ≡ false → Every (λ (y : X). equal x y ≡ false) xs
  none-any x [] h = tt
  none-any x (y ∷ xs) h = let parts = or_parts (equal x y) (list_any (equal x) xs) h in (parts.0, none-any x xs parts.1)

  any-none : (x : X) (xs : List X) → Every (λ (y : X). equal x y ≡ false) xs → list_any (equal x) xs ≡ false
  any-none x [] h = refl
  any-none x (y ∷ xs) h = rw h.0 (any-none x xs h.1)

  distinct-of : (xs : List X) → are_different equal xs ≡ true → IsDistinct equal xs
  unfolding IsDistinct
  distinct-of [] h = tt
  distinct-of (x ∷ xs) h = let parts = and_parts (not (list_any (equal x) xs)) (are_different equal xs) h in (none-any x xs (not-true (list_any (equal x) xs) parts.0), distinct-of xs parts.1)

  of-distinct : (xs : List X) → IsDistinct equal xs → are_different equal xs ≡ true
  unfolding IsDistinct
  of-distinct [] h = refl
  of-distinct (x ∷ xs) h = rw (any-none x xs h.0) (of-distinct xs h.1)

  pub differ-moved : (xs ys : List X) → IsPermutation xs ys → are_different equal xs ≡ are_different equal ys
  differ-moved xs ys moves = both_ways (are_different equal xs) (are_different equal ys)
      (λ h. of-distinct ys (distinct_permutation equivalence xs ys moves (distinct-of xs h)))
      (λ h. of-distinct xs (distinct_permutation equivalence ys xs (IsPermutation-sym xs ys moves) (distinct-of ys h)))

  pub distinct-different : (xs : List X) → are_different equal xs ≡ true → IsDistinct equal xs
  distinct-different xs h = distinct-of xs h

-- ---- what is written over all items of a list

pub refilled : {X : Type 0} (xs ws : List X) → length ws ≡ length xs → refill (length xs) xs ws ≡ ws
refilled xs ws same =
    let none = drop_all (length ws) xs (omega (arith, same)) in
    ap (λ rest. take (length xs) (ws ++ rest)) none ∙ ap (take (length xs)) (append-nil ws) ∙ take_all (length xs) ws (omega (arith, same))
