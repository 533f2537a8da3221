-- The orders of uids and of names.
use Rattle.std.proofs.Common.{◌≡◌, ℕ, ◌<◌, ◌==◌, Bool, true, false, not, ◌&&◌, ◌||◌, nat_lt, List, [], ◌∷◌, map, refl, sym, ◌∙◌, ap, arith, ne_eqb, eq-eqb, ltb-true, ltb-false, le-ltb, true≢false}
use Rattle.std.specs.Prelude.{IsPermutation}
use Rattle.std.specs.Cmp.{IsEquivalence}
use Rattle.std.specs.Cmp.Lexicographic.{slice_cmp}
use Rattle.std.specs.List.{list_any}
use Rattle.std.specs.List.Sorted.{IsNonDecreasing, IsSortedBy}
use Rattle.std.specs.Ordering.{nat_cmp, is_lt, ordering_reverse}
use Rattle.std.specs.declared.cmp.Ordering.{Ordering}
use Rattle.std.specs.declared.cmp.Ordering.TheVariants.{Less, Equal, Greater}
use Rattle.std.proofs.lemmas.Cmp.{nat_eq_equiv, nat_list_cmp_total, nat_list_eq_equiv}
use Rattle.std.proofs.lemmas.List.Sorted.{IsStrictWeakOrder-by_number, ranks_by, sorted_far}
use Rattle.std.proofs.lemmas.Map.Lookups.{exact_bytes}
use Rattle.pc_tables.specs.Table.{same}
use Rattle.pc_tables.proofs.Table.{same-true, same-refl}
use Rattle.pc_cache_history.specs.Allowed.{are_different}
use Rattle.pc_cache.specs.Rising.{is_before, is_before_at, name_at, rise}
use Rattle.pc_cache.proofs.Rises.{ordered-at, rising-differ, rise-exactly, differ-moved}

-- ---- uids

-- numbers that don't fall rise just where none comes twice
numbers-exactly : (numbers : List ℕ) → IsNonDecreasing numbers → rise nat_lt numbers ≡ are_different ◌==◌ numbers
numbers-exactly numbers up = rise-exactly nat_lt ◌==◌ (IsStrictWeakOrder-by_number (λ (n : ℕ). n))
    (λ x y lt. let above : x < y = ltb-true x y lt in ne_eqb x y (λ e. absurd (omega (arith, above, e))))
    (λ x y a b. let one = ltb-false x y a in let other = ltb-false y x b in eq-eqb x y (omega (arith, one, other)))
    numbers (ordered-at (λ (one later : ℕ). nat_lt later one ≡ false) numbers (λ i j d le lt. le-ltb _ _ (up i j d le lt)))

pub sorted-numbers : (numbers sorted : List ℕ) → IsPermutation numbers sorted → IsNonDecreasing sorted → rise nat_lt sorted ≡ are_different ◌==◌ numbers
sorted-numbers numbers sorted moves up = numbers-exactly sorted up ∙ sym (differ-moved nat_eq_equiv numbers sorted moves)

-- ---- names

before-less : (name other : List ℕ) → is_before name other ≡ true → slice_cmp nat_cmp name other ≡ Less
before-less name other h = less-of (slice_cmp nat_cmp name other) h
  where
    less-of : (o : Ordering) → is_lt o ≡ true → o ≡ Less
    less-of Less e = refl
    less-of Equal e = absurd (true≢false (sym e))
    less-of Greater e = absurd (true≢false (sym e))

before-apart : (name other : List ℕ) → is_before name other ≡ true → same name other ≡ false
before-apart name other h = elim (same name other) as (λ b. same name other ≡ b → b ≡ false) [
  | true ↦ λ e.
      let own : slice_cmp nat_cmp other other ≡ Less = ap (λ n. slice_cmp nat_cmp n other) (sym (same-true name other e)) ∙ before-less name other h in
      let turned : slice_cmp nat_cmp other other ≡ Greater = nat_list_cmp_total.antisymm other other ∙ ap ordering_reverse own in
      let both : Less ≡ Greater = sym own ∙ turned in
      cc
  | false ↦ λ e. refl
] refl

neither-same : (name other : List ℕ) → is_before name other ≡ false → is_before other name ≡ false → same name other ≡ true
neither-same name other a b = ap (same name) (sym (exact_bytes name other (equal-of (slice_cmp nat_cmp name other) (slice_cmp nat_cmp other name) (nat_list_cmp_total.antisymm name other) a b))) ∙ same-refl name
  where
    equal-of : (o turned : Ordering) → o ≡ ordering_reverse turned → is_lt o ≡ false → is_lt turned ≡ false → o ≡ Equal
    equal-of Less turned e a b = absurd (true≢false a)
    equal-of Equal turned e a b = refl
    equal-of Greater Less e a b = absurd (true≢false b)
    equal-of Greater Equal e a b = let no : Greater ≡ Equal = e in cc
    equal-of Greater Greater e a b = let no : Greater ≡ Less = e in cc

pub names-rise-differ : (names : List (List ℕ)) → rise is_before names ≡ true → are_different same names ≡ true
names-rise-differ names h = rising-differ is_before same (ranks_by nat_list_cmp_total (λ (name : List ℕ). name)) before-apart neither-same names h

-- ---- places of names

module _ (names : List (List ℕ)) (any : List ℕ) where
  abbrev same_at : ℕ → ℕ → Bool
  same_at place other = same (name_at names any place) (name_at names any other)

  at-equivalence : IsEquivalence same_at
  at-equivalence = record {
    refl = λ x. nat_list_eq_equiv.refl (name_at names any x);
    symm = λ x y. nat_list_eq_equiv.symm (name_at names any x) (name_at names any y);
    congr = λ x y z e. nat_list_eq_equiv.congr (name_at names any x) (name_at names any y) (name_at names any z) e;
  }

  any-mapped : (place : ℕ) (places : List ℕ) → list_any (same_at place) places ≡ list_any (same (name_at names any place)) (map (name_at names any) places)
  any-mapped place [] = refl
  any-mapped place (other ∷ places) = ap (λ b. same_at place other || b) (any-mapped place places)

  differ-mapped : (places : List ℕ) → are_different same_at places ≡ are_different same (map (name_at names any) places)
  differ-mapped [] = refl
  differ-mapped (place ∷ places) = λ i. not (any-mapped place places i) && differ-mapped places i

  -- places in the order of their names rise just where no name comes twice
  pub sorted-places : (places sorted : List ℕ) → map (name_at names any) places ≡ names → IsPermutation places sorted → IsSortedBy (λ (one other : ℕ). is_before_at names any one other) sorted → rise (is_before_at names any) sorted ≡ are_different same names
  sorted-places places sorted all moves up =
      let order = ranks_by nat_list_cmp_total (name_at names any) in
      rise-exactly (is_before_at names any) same_at order (λ x y lt. before-apart (name_at names any x) (name_at names any y) lt) (λ x y a b. neither-same (name_at names any x) (name_at names any y) a b)
      sorted (ordered-at (λ (one later : ℕ). is_before_at names any later one ≡ false) sorted (sorted_far (is_before_at names any) order sorted up))
      ∙ sym (differ-moved at-equivalence places sorted moves)
      ∙ differ-mapped places
      ∙ ap (are_different same) all
