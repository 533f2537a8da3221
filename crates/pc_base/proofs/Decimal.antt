-- What decimal digits stand for, one digit on, and with more digits behind.
use Rattle.std.proofs.Common.{◌≡◌, ℕ, ◌+◌, ◌*◌, ◌-◌, ◌≤◌, ◌<◌, get_or, take, drop, take-append-drop, List, [], ◌∷◌, ◌++◌, length, subst, arith, length-append, append_assoc, append-nil, add-one}
use Rattle.std.proofs.lemmas.List.{take_more}
use Rattle.std.proofs.Math.Nat.{pow-suc}
use Rattle.pc_base.specs.Number.{decimal_value}

pub decimal_value-push : (digits : List ℕ) (digit : ℕ) → decimal_value (digits ++ digit ∷ []) ≡ decimal_value digits * 10 + (digit - 48)
unfolding decimal_value
decimal_value-push [] digit = omega arith
decimal_value-push (first ∷ others) digit =
    let more : length (others ++ digit ∷ []) ≡ length others + 1 = length-append others (digit ∷ []) in
    rw (more, add-one, decimal_value-push others digit, pow-suc) (grind arith)

pub decimal_value-append-le : (digits more : List ℕ) → decimal_value digits ≤ decimal_value (digits ++ more)
decimal_value-append-le digits [] = rw (append-nil digits) (omega arith)
decimal_value-append-le digits (digit ∷ more) =
    let one = decimal_value-push digits digit in
    let rest = decimal_value-append-le (digits ++ digit ∷ []) more in
    let same : (digits ++ digit ∷ []) ++ more ≡ digits ++ digit ∷ more = append_assoc digits (digit ∷ []) more in
    subst (λ (whole : List ℕ). decimal_value digits ≤ decimal_value whole) same (omega arith)

pub decimal_value-more : (digits : List ℕ) (i : ℕ) → i < length digits → decimal_value (take (i + 1) digits) ≡ decimal_value (take i digits) * 10 + (get_or digits i 0 - 48)
decimal_value-more digits i within = rw (take_more digits i 0 within) (decimal_value-push (take i digits) (get_or digits i 0))

-- digits that are too many so far stay too many
pub decimal_value-take-le : (digits : List ℕ) (i : ℕ) → decimal_value (take i digits) ≤ decimal_value digits
decimal_value-take-le digits i = subst (λ (whole : List ℕ). decimal_value (take i digits) ≤ decimal_value whole) (take-append-drop i digits) (decimal_value-append-le (take i digits) (drop i digits))
