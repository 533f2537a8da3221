-- What is put into a line has no LF, and is short.
use Rattle.std.proofs.Common.{◌≡◌, ℕ, ◌^◌, ◌<◌, ◌≤◌, Bool, true, false, ◌&&◌, nat_lt, IsTrue, List, [], ◌∷◌, length, decimal, refl, arith}
use Rattle.std.specs.List.{list_all}
use Rattle.std.proofs.lemmas.Bool.{and_parts, false≢true}
use Rattle.std.proofs.lemmas.Bool.Decides.{nat_tests}
use Rattle.pc_base.specs.Name.{is_letter, is_name_byte, is_name}
use Rattle.pc_base.specs.Number.{is_digit}
use Rattle.pc_wire.proofs.DecimalLemmas.{decimal_digits}
use Rattle.pc_wire.specs.Lines.{is_feed, has_feed}

all_open : (test : ℕ → Bool) → ((byte : ℕ) → test byte ≡ true → is_feed byte ≡ false) → (bytes : List ℕ) → list_all test bytes ≡ true → has_feed bytes ≡ false
all_open test apart [] all = refl
all_open test apart (byte ∷ bytes) all =
    let parts = and_parts (test byte) (list_all test bytes) all in
    rw (apart byte parts.0, all_open test apart bytes parts.1) refl

digit_open : (byte : ℕ) → is_digit byte ≡ true → is_feed byte ≡ false
digit_open byte fits = grind (arith, nat_tests)

letter_open : (byte : ℕ) → is_letter byte ≡ true → is_feed byte ≡ false
letter_open byte fits = grind (arith, nat_tests)

name_byte_open : (byte : ℕ) → is_name_byte byte ≡ true → is_feed byte ≡ false
name_byte_open byte fits = grind (arith, nat_tests)

pub open-decimal : (n : ℕ) → n < 2 ^ 64 → has_feed (decimal n) ≡ false
open-decimal n fits = all_open is_digit digit_open (decimal n) (decimal_digits n fits).digits

-- a name: its first letter and at most 31 bytes behind it
name_parts : (first : ℕ) (others : List ℕ) → IsTrue (is_name (first ∷ others)) → (is_letter first ≡ true) × (list_all is_name_byte others ≡ true) × (length others < 32)
name_parts first others named =
    let parts = and_parts (is_letter first && list_all is_name_byte others) (nat_lt (length others) 32) named in
    let front = and_parts (is_letter first) (list_all is_name_byte others) parts.0 in
    (front.0, front.1, grind (arith, nat_tests))

pub open-name : (name : List ℕ) → IsTrue (is_name name) → has_feed name ≡ false
open-name [] named = absurd (false≢true named)
open-name (first ∷ others) named =
    let parts = name_parts first others named in
    rw (letter_open first parts.0, all_open is_name_byte name_byte_open others parts.1) refl

pub length-name-le : (name : List ℕ) → IsTrue (is_name name) → length name ≤ 32
length-name-le [] named = omega arith
length-name-le (first ∷ others) named =
    let parts = name_parts first others named in omega (arith, parts.2)
