-- How many names two lists share.
use Rattle.std.proofs.Common.{◌≡◌, ℕ, ◌+◌, Bool, true, false, cond, ◌||◌, not, List, [], ◌∷◌, length, filter, refl, sym, ◌∙◌, ap, arith, true≢false}
use Rattle.std.proofs.lemmas.Bool.{and_parts, not-true}
use Rattle.pc_tables.specs.Table.{same, is_among}
use Rattle.pc_tables.specs.Order.{AreDistinct}
use Rattle.pc_tables.proofs.Table.{same-true, same-sym}
use Rattle.pc_tables.proofs.Lists.{filter-false}
use Rattle.pc_office_history.specs.Allowed.{are_apart}
use Rattle.pc_tables.proofs.Distinct.{not-among}

one-step : (name : List ℕ) (both others : List (List ℕ)) (here test later : Bool) → (here ≡ true → (test ≡ false) × (later ≡ false)) → length both ≡ cond later 1 0 + length others → length (cond (here || test) (name ∷ both) both) ≡ cond (here || later) 1 0 + length (cond test (name ∷ others) others)
one-step name both others true true later f h = absurd (true≢false (f refl).0)
one-step name both others true false true f h = absurd (true≢false (f refl).1)
one-step name both others true false false f h = omega (arith, h)
one-step name both others false true later f h = omega (arith, h)
one-step name both others false false later f h = h

-- one name more to look for, among names that come once
one-more : (one : List ℕ) (test : List ℕ → Bool) (names : List (List ℕ)) → are_apart names ≡ true → test one ≡ false → length (filter (λ name. same name one || test name) names) ≡ cond (is_among one names) 1 0 + length (filter test names)
one-more one test [] apart h = refl
one-more one test (name ∷ names) apart h =
    let parts = and_parts (not (is_among name names)) (are_apart names) apart in
    one-step name (filter (λ other. same other one || test other) names) (filter test names) (same name one) (test name) (is_among one names)
    (λ e. let equal = same-true name one e in (ap test equal ∙ h, ap (λ n. is_among n names) (sym equal) ∙ not-true (is_among name names) parts.0))
    (one-more one test names parts.1 h)
    ∙ ap (λ b. cond (b || is_among one names) 1 0 + length (cond (test name) (name ∷ filter test names) (filter test names))) (same-sym name one)

-- of names that come once in two lists, as many are in the second as of the second in the first
pub shared : (names others : List (List ℕ)) → AreDistinct names → are_apart others ≡ true → length (filter (λ name. is_among name others) names) ≡ length (filter (λ other. is_among other names) others)
shared [] others distinct apart = sym (ap length (filter-false others))
shared (name ∷ names) others distinct apart =
    step (is_among name others) (filter (λ other. is_among other others) names) (length (filter (λ other. is_among other names) others)) (shared names others distinct.1 apart)
    ∙ sym (one-more name (λ other. is_among other names) others apart (not-among name names distinct.0))
  where
    step : (b : Bool) (rest : List (List ℕ)) (count : ℕ) → length rest ≡ count → length (cond b (name ∷ rest) rest) ≡ cond b 1 0 + count
    step true rest count h = omega (arith, h)
    step false rest count h = omega (arith, h)
