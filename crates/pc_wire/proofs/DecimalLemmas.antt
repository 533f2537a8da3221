-- A number that is written in digits is read again.
use Rattle.std.proofs.Common.{◌≡◌, ℕ, ◌+◌, ◌/◌, ◌%◌, ◌^◌, ◌≤◌, ◌<◌, Bool, true, false, ◌&&◌, decimal, List, [], ◌∷◌, ◌++◌, length, sym, ap, ◌∙◌, arith, length-append}
use Rattle.std.specs.List.{list_all}
use Rattle.std.proofs.lemmas.Bool.Decides.{nat_tests}
use Rattle.std.proofs.lemmas.Fmt.{decimal_by_steps, length-decimal-le}
use Rattle.pc_base.specs.Number.{is_digit, decimal_value, is_number}
use Rattle.pc_base.proofs.Decimal.{decimal_value-push}

-- digits for a number
pub record AreDigitsOf (n : ℕ) (ds : List ℕ) : Type 0 where
  pub digits : list_all is_digit ds ≡ true
  pub some : 0 < length ds
  pub value : decimal_value ds ≡ n

list_all-push : (ds : List ℕ) (d : ℕ) → list_all is_digit ds ≡ true → is_digit d ≡ true → list_all is_digit (ds ++ d ∷ []) ≡ true
list_all-push [] d all last = rw last
list_all-push (x ∷ xs) d all last = by_test (is_digit x) all (λ rest. list_all-push xs d rest last)
  where
    by_test : (t : Bool) → (t && list_all is_digit xs) ≡ true → (list_all is_digit xs ≡ true → list_all is_digit (xs ++ d ∷ []) ≡ true) → (t && list_all is_digit (xs ++ d ∷ [])) ≡ true
    by_test true all rest = rest all
    by_test false all rest = all

digit_small : (d : ℕ) → d < 10 → is_digit (48 + d) ≡ true
digit_small d small = grind (arith, nat_tests)

one : (n : ℕ) → n < 10 → AreDigitsOf n ((48 + n) ∷ [])
unfolding decimal_value
one n small = record { digits = rw (digit_small n small); some = omega arith; value = omega arith }

more : (n : ℕ) (ds : List ℕ) → 10 ≤ n → AreDigitsOf (n / 10) ds → AreDigitsOf n (ds ++ (48 + n % 10) ∷ [])
more n ds large front = record {
  digits = list_all-push ds (48 + n % 10) front.digits (digit_small (n % 10) (omega arith));
  some = omega (arith, length-append ds ((48 + n % 10) ∷ []));
  value = omega (arith, decimal_value-push ds (48 + n % 10), front.value);
}

-- what is written for a number are digits for it
pub decimal_digits : (n : ℕ) → n < 2 ^ 64 → AreDigitsOf n (decimal n)
decimal_digits n fits = decimal_by_steps AreDigitsOf one more n fits

-- and is read as a number, where it has few enough digits and is below the limit
pub is_number-decimal : (most limit n : ℕ) → 0 < most → n < 10 ^ most → n < 2 ^ 64 → n < limit → is_number most limit (decimal n) ≡ true
is_number-decimal most limit n some few fits below =
    let are = decimal_digits n fits in
    let short = length-decimal-le most n some few fits in
    rw (are.digits, are.value) (grind (arith, nat_tests))

-- two numbers aren't written alike
pub decimal_differ : (n m : ℕ) → n < 2 ^ 64 → m < 2 ^ 64 → decimal n ≡ decimal m → n ≡ m
decimal_differ n m fits fit same =
    sym (decimal_digits n fits).value ∙ ap decimal_value same ∙ (decimal_digits m fit).value
