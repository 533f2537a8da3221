-- A number that is written in digits is read again, and so is an argument that is a number.
use Rattle.std.proofs.Common.{◌≡◌, ℕ, ◌^◌, ◌<◌, ◌≤◌, Bool, true, false, IsTrue, decimal, [], ◌∷◌, ap, ◌∙◌, arith, lit<}
use Rattle.std.proofs.lemmas.Fmt.{decimal_digit}
use Rattle.pc_base.specs.Number.{is_number}
use Rattle.pc_request.specs.Argument.{IsDigits, IsSpelled, written}
use Rattle.pc_request.specs.Argument as argument
use Rattle.pc_wire.proofs.DecimalLemmas.{decimal_digits, is_number-decimal as number_is_read}

is_number-decimal : (n : ℕ) → n < 2 ^ 32 → IsTrue (is_number 10 (2 ^ 32) (decimal n))
is_number-decimal n fits = number_is_read 10 (2 ^ 32) n (omega arith) (omega arith) (omega arith) fits

IsDigits-decimal : (n : ℕ) → n < 2 ^ 32 → IsDigits (decimal n) n
IsDigits-decimal n fits = (is_number-decimal n fits, (decimal_digits n (omega arith)).value)

pub number_spells : (n : ℕ) → n < 2 ^ 32 → IsSpelled (argument.number n) (written (argument.number n))
unfolding IsSpelled written
number_spells n fits = IsDigits-decimal n fits

pub flag_spells : (n : ℕ) → n ≤ 15 → IsSpelled (argument.flag n) (written (argument.flag n))
unfolding IsSpelled written
flag_spells n fits = (IsDigits-decimal n (omega arith), fits)

pub count_spells : (n : ℕ) → 1 ≤ n → n ≤ 256 → IsSpelled (argument.count n) (written (argument.count n))
unfolding IsSpelled written
count_spells n some few = (IsDigits-decimal n (omega arith), some, few)

pub switch_spells : (on : Bool) → IsSpelled (argument.switch on) (written (argument.switch on))
unfolding IsSpelled written
switch_spells true = IsDigits-decimal 1 (lit< tt)
switch_spells false = IsDigits-decimal 0 (lit< tt)

pub yes_is_written : (on : Bool) → on ≡ true → written (argument.switch on) ≡ 49 ∷ []
unfolding written
yes_is_written on is = ap (λ b. written (argument.switch b)) is ∙ decimal_digit 1 (lit< tt)

pub no_is_written : (on : Bool) → on ≡ false → written (argument.switch on) ≡ 48 ∷ []
unfolding written
no_is_written on is = ap (λ b. written (argument.switch b)) is ∙ decimal_digit 0 (lit< tt)
