-- The words of a list's line: what they are read as.
use Rattle.std.proofs.Common.{◌≡◌, ℕ, ◌^◌, ◌<◌, IsTrue, decimal, List, ◌∷◌, sym, ap, ◌∙◌, arith}
use Rattle.pc_base.specs.Number.{is_number, decimal_value}
use Rattle.pc_wire.proofs.DecimalLemmas.{decimal_digits, is_number-decimal}

-- the first of two equal lists of words
pub first_same : (word other : List ℕ) (rest others words : List (List ℕ)) → words ≡ word ∷ rest → words ≡ other ∷ others → (word ≡ other) × (rest ≡ others)
first_same word other rest others words is also =
    let same : word ∷ rest ≡ other ∷ others = sym is ∙ also in (cc, cc)

-- digits for a number are read
pub no_number : (word : List ℕ) (number : ℕ) (rest others words : List (List ℕ)) → number < 2 ^ 32 → words ≡ word ∷ rest → words ≡ decimal number ∷ others → (IsTrue (is_number 10 (2 ^ 32) word) → ⊥) → ⊥
no_number word number rest others words fits is also none =
    let same = first_same word (decimal number) rest others words is also in
    none (ap (is_number 10 (2 ^ 32)) same.0 ∙ is_number-decimal 10 (2 ^ 32) number (omega arith) (omega arith) (omega arith) fits)

-- as that number
pub that_number : (word : List ℕ) (number found : ℕ) (rest others words : List (List ℕ)) → number < 2 ^ 32 → words ≡ word ∷ rest → words ≡ decimal number ∷ others → found ≡ decimal_value word → (found ≡ number) × (rest ≡ others)
that_number word number found rest others words fits is also value =
    let same = first_same word (decimal number) rest others words is also in
    (value ∙ ap decimal_value same.0 ∙ (decimal_digits number (omega arith)).value, same.1)
