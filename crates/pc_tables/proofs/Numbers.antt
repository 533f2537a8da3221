-- Numbers that follow each other, and the test of a number between two.
use Rattle.std.proofs.Common.{◌≡◌, ℕ, true, false, ◌&&◌, ◌||◌, List, [], ◌∷◌, ◌++◌, refl, sym, ap, suc, ◌+◌, ◌≤◌, ◌==◌, arith, add-zero, zero, ◌<◌, nat_lt, nat_le, zero-add, suc-add, lt-ltb, le-ltb, le-leb, inl, inr, eq-eqb, ne_eqb}
use Rattle.std.specs.List.{AllByRecursion as Every}
use Rattle.std.proofs.lemmas.Bool.{cases_order, cases_lt, lt-leb}
use Rattle.pc_tables.specs.Table.{has_number, numbers}

pub numbers-append : (low count more : ℕ) → numbers low (count + more) ≡ numbers low count ++ numbers (low + count) more
numbers-append low zero more = rw (zero-add, add-zero)
numbers-append low (suc count) more = let e : suc low + count ≡ low + suc count = omega arith in rw (suc-add, ← e) (ap (λ ns. suc low ∷ ns) (numbers-append (suc low) count more))

pub Every-numbers : (P : ℕ → Type 0) (low count : ℕ) → ((uid : ℕ) → low < uid → uid ≤ low + count → P uid) → Every P (numbers low count)
Every-numbers P low zero f = tt
Every-numbers P low (suc count) f = (f (suc low) (omega arith) (omega arith), Every-numbers P (suc low) count (λ uid h g. f uid (omega arith) (omega arith)))

-- the test of a number between two
pub within-true : (low high uid : ℕ) → low < uid → uid ≤ high → (nat_lt low uid && nat_le uid high) ≡ true
within-true low high uid h g = rw (lt-ltb low uid h, le-leb uid high g)

pub within-below : (low high uid : ℕ) → uid ≤ low → (nat_lt low uid && nat_le uid high) ≡ false
within-below low high uid h = rw (le-ltb low uid h)

pub within-above : (low high uid : ℕ) → high < uid → (nat_lt low uid && nat_le uid high) ≡ false
within-above low high uid h = elim (nat_lt low uid) as (λ b. (b && nat_le uid high) ≡ false) [ true ↦ lt-leb uid high h | false ↦ refl ]

pub within-none : (low uid : ℕ) → (nat_lt low uid && nat_le uid (low + 0)) ≡ false
within-none low uid = elim (cases_lt low uid) [ inl h ↦ within-above low (low + 0) uid (omega arith) | inr h ↦ within-below low (low + 0) uid h ]

pub within-next : (low uid : ℕ) → (suc low ≡ uid → ⊥) → (nat_lt low uid && nat_le uid (suc low)) ≡ false
within-next low uid other = elim (cases_order (suc low) uid) [ inl same ↦ absurd (other same) | inr o ↦ elim o [ inl above ↦ within-above low (suc low) uid above | inr below ↦ within-below low (suc low) uid (omega arith) ] ]

one_more : (uid low count : ℕ) → ((suc low == uid) || (nat_lt (suc low) uid && nat_le uid (suc low + count))) ≡ (nat_lt low uid && nat_le uid (low + suc count))
one_more uid low count =
    let e : suc low + count ≡ low + suc count = omega arith in
    elim (cases_order (suc low) uid) [
      | inl same ↦ rw (eq-eqb (suc low) uid same) (sym (within-true low (low + suc count) uid (omega arith) (omega arith)))
      | inr other ↦ elim other [
        | inl above ↦ rw (ne_eqb (suc low) uid (λ same. absurd (omega arith)), lt-ltb (suc low) uid above, lt-ltb low uid (omega arith), e)
        | inr below ↦ rw (ne_eqb (suc low) uid (λ same. absurd (omega arith)), le-ltb (suc low) uid (omega arith), le-ltb low uid (omega arith))
      ]
    ]

pub has_number-numbers : (uid low count : ℕ) → has_number uid (numbers low count) ≡ (nat_lt low uid && nat_le uid (low + count))
has_number-numbers uid low zero = sym (within-none low uid)
has_number-numbers uid low (suc count) = rw (has_number-numbers uid (suc low) count) (one_more uid low count)

pub has_number-append : (uid : ℕ) (xs ys : List ℕ) → has_number uid (xs ++ ys) ≡ (has_number uid xs || has_number uid ys)
has_number-append uid [] ys = refl
has_number-append uid (x ∷ xs) ys = elim (x == uid) as (λ b. (b || has_number uid (xs ++ ys)) ≡ ((b || has_number uid xs) || has_number uid ys)) [ true ↦ refl | false ↦ has_number-append uid xs ys ]
