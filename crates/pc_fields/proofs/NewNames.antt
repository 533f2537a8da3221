-- A name that is none of some.
use Rattle.std.proofs.Common.{◌≡◌, ℕ, zero, suc, ◌+◌, ◌-◌, ◌*◌, ◌/◌, ◌%◌, ◌<◌, ◌≤◌, ◌&&◌, ◌||◌, ◌==◌, nat_le, Bool, true, false, cond, not, List, [], ◌∷◌, length, refl, sym, ap, ◌∙◌, arith, true≢false}
use Rattle.std.specs.List.{list_all, AllByRecursion as Every}
use Rattle.std.proofs.lemmas.Bool.{le-leb, and_from}
use Rattle.pc_base.specs.Name.{is_name, is_letter, is_name_byte}
use Rattle.pc_tables.specs.Table.{same, is_among, other_names}
use Rattle.pc_tables.specs.Order.{AreDistinct}
use Rattle.pc_tables.proofs.Table.{same-true, same-refl, same-sym, list_all-among}
use Rattle.pc_tables.proofs.Totals.{total-among, length-ones}
use Rattle.pc_fields.specs.Fields.{is_new}

pub or-second : (a b : Bool) → b ≡ true → (a || b) ≡ true
or-second true b h = refl
or-second false b h = h

-- ---- names among others

others-fewer : (name : List ℕ) (names : List (List ℕ)) → is_among name names ≡ true → suc (length (other_names name names)) ≤ length names
others-fewer name names among =
    let sum = total-among (λ _. 1) name names among in
    let long = length-ones (other_names name names) in
    let all = length-ones names in
    omega (arith, sum, long, all)

among-others : (name asked : List ℕ) (names : List (List ℕ)) → same name asked ≡ false → is_among asked (other_names name names) ≡ is_among asked names
among-others name asked [] differs = refl
among-others name asked (other ∷ names) differs =
    elim (same name other) as (λ b. same name other ≡ b → is_among asked (cond (not b) (other ∷ other_names name names) (other_names name names)) ≡ (same asked other || is_among asked names)) [
      | true ↦ λ e.
          let is = same-true name other e in
          let not-here : same asked other ≡ false = ap (same asked) (sym is) ∙ same-sym asked name ∙ differs in
          among-others name asked names differs ∙ ap (λ (b : Bool). b || is_among asked names) (sym not-here)
      | false ↦ λ e. ap (λ (b : Bool). same asked other || b) (among-others name asked names differs)
    ] refl

pub differs-among : (name asked : List ℕ) (names : List (List ℕ)) → Every (λ (later : List ℕ). same name later ≡ false) names → is_among asked names ≡ true → same name asked ≡ false
differs-among name asked [] differs among = absurd (true≢false (sym among))
differs-among name asked (other ∷ names) differs among =
    elim (same asked other) as (λ b. same asked other ≡ b → (b || is_among asked names) ≡ true → same name asked ≡ false) [
      | true ↦ λ e _. ap (same name) (same-true asked other e) ∙ differs.0
      | false ↦ λ e rest. differs-among name asked names differs.1 rest
    ] refl among

-- one of these names that is none of those
pub record FreeOne (names taken : List (List ℕ)) : Type 0 where
  pub name : List ℕ
  pub among : is_among name names ≡ true
  pub free : is_among name taken ≡ false

pub free_one : (names taken : List (List ℕ)) → AreDistinct names → length taken < length names → FreeOne names taken
free_one [] taken distinct few = absurd (omega (arith, few))
free_one (name ∷ names) taken distinct few =
    elim (is_among name taken) as (λ b. is_among name taken ≡ b → FreeOne (name ∷ names) taken) [
      | false ↦ λ e. record { name = name; among = ap (λ (b : Bool). b || is_among name names) (same-refl name); free = e }
      | true ↦ λ e.
          let fewer = others-fewer name taken e in
          let rest = free_one names (other_names name taken) distinct.1 (omega (arith, few, fewer)) in
          let differs = differs-among name rest.name names distinct.0 rest.among in
          record { name = rest.name; among = or-second (same rest.name name) (is_among rest.name names) rest.among; free = sym (among-others name rest.name taken differs) ∙ rest.free }
    ] refl

-- distinct names that are all among others are no more
pub among-count : (these names : List (List ℕ)) → AreDistinct these → Every (λ (name : List ℕ). is_among name names ≡ true) these → length these ≤ length names
among-count [] names distinct among = omega arith
among-count (name ∷ these) names distinct among =
    let fewer = others-fewer name names among.0 in
    let rest = among-count these (other_names name names) distinct.1 (moved these distinct.0 among.1) in
    omega (arith, fewer, rest)
  where
    moved : (some : List (List ℕ)) → Every (λ (later : List ℕ). same name later ≡ false) some → Every (λ (other : List ℕ). is_among other names ≡ true) some → Every (λ (other : List ℕ). is_among other (other_names name names) ≡ true) some
    moved [] differs all = tt
    moved (other ∷ some) differs all = (among-others name other names differs.0 ∙ all.0, moved some differs.1 all.1)

-- ---- new names

-- the name of three letters with this number
name_of : ℕ → List ℕ
name_of number = (97 + number / 256) ∷ (97 + (number % 256) / 16) ∷ (97 + (number % 256) % 16) ∷ []

-- the number of a name of three letters
number_of : List ℕ → ℕ
number_of [] = 0
number_of (x ∷ []) = 0
number_of (x ∷ y ∷ []) = 0
number_of (x ∷ y ∷ z ∷ rest) = 256 * (x - 97) + 16 * (y - 97) + (z - 97)

number-of : (n : ℕ) → number_of (name_of n) ≡ n
unfolding name_of number_of
number-of n = omega arith

letter-in : (n : ℕ) → n < 26 → is_letter (97 + n) ≡ true
letter-in n lt = rw (le-leb 97 (97 + n) (omega arith), le-leb (97 + n) 122 (omega arith)) refl

or-left : (a b c d e : Bool) → a ≡ true → (a || b || c || d || e) ≡ true
or-left true b c d e h = refl
or-left false b c d e h = absurd (true≢false (sym h))

and-all : (a b c : Bool) → a ≡ true → b ≡ true → c ≡ true → (a && (b && (c && true)) && true) ≡ true
and-all true true true f g h = refl
and-all true true false f g h = absurd (true≢false (sym h))
and-all true false c f g h = absurd (true≢false (sym g))
and-all false b c f g h = absurd (true≢false (sym f))

name-byte : (n : ℕ) → n < 26 → is_name_byte (97 + n) ≡ true
name-byte n lt = or-left (is_letter (97 + n)) (nat_le 48 (97 + n) && nat_le (97 + n) 57) ((97 + n) == 46) ((97 + n) == 95) ((97 + n) == 45) (letter-in n lt)

name-of : (n : ℕ) → n < 4096 → is_name (name_of n) ≡ true
unfolding name_of
name-of n lt =
    and-all (is_letter (97 + n / 256)) (is_name_byte (97 + (n % 256) / 16)) (is_name_byte (97 + (n % 256) % 16)) (letter-in (n / 256) (omega (arith, lt))) (name-byte ((n % 256) / 16) (omega arith)) (name-byte ((n % 256) % 16) (omega arith))

-- the names with the numbers below this one
names_below : ℕ → List (List ℕ)
names_below zero = []
names_below (suc n) = name_of n ∷ names_below n

names-long : (n : ℕ) → length (names_below n) ≡ n
unfolding names_below
names-long zero = refl
names-long (suc n) = ap suc (names-long n)

names-are : (n : ℕ) → n ≤ 4096 → list_all is_name (names_below n) ≡ true
unfolding names_below
names-are zero le = refl
names-are (suc n) le = and_from (is_name (name_of n)) (list_all is_name (names_below n)) (name-of n (omega (arith, le))) (names-are n (omega (arith, le)))

names-differ : (n m : ℕ) → m ≤ n → Every (λ (later : List ℕ). same (name_of n) later ≡ false) (names_below m)
unfolding names_below
names-differ n zero le = tt
names-differ n (suc m) le = (by-case (same (name_of n) (name_of m)) refl, names-differ n m (omega (arith, le)))
  where
    by-case : (b : Bool) → same (name_of n) (name_of m) ≡ b → b ≡ false
    by-case true e = absurd (let is : n ≡ m = sym (number-of n) ∙ ap number_of (same-true (name_of n) (name_of m) e) ∙ number-of m in omega (arith, is, le))
    by-case false e = refl

names-distinct : (n : ℕ) → AreDistinct (names_below n)
unfolding names_below
names-distinct zero = tt
names-distinct (suc n) = (names-differ n n (omega arith), names-distinct n)

pub record NewName (names : List (List ℕ)) : Type 0 where
  pub name : List ℕ
  pub is : is_name name ≡ true
  pub new : is_new names name ≡ true

-- a name that is none of these, which are fewer than 4,096
pub new_name : (names : List (List ℕ)) → length names < 4096 → NewName names
new_name names few =
    let all = names_below (suc (length names)) in
    let long = names-long (suc (length names)) in
    let one = free_one all names (names-distinct (suc (length names))) (omega (arith, long)) in
    record { name = one.name; is = list_all-among is_name one.name all (names-are (suc (length names)) (omega (arith, few))) one.among; new = ap not one.free }
