-- The words of the texts of lists.
use Rattle.std.proofs.Common.{◌≡◌, ℕ, ◌^◌, ◌<◌, Bool, true, false, ◌&&◌, nat_lt, IsTrue, codes, decimal, List, [], ◌∷◌, ◌++◌, length, refl, sym, ap, ◌∙◌, arith, append_assoc, append-nil}
use Rattle.std.specs.List.{list_any, list_all}
use Rattle.std.proofs.lemmas.Bool.{and_parts, false≢true}
use Rattle.std.proofs.lemmas.Bool.Decides.{nat_tests}
use Rattle.pc_base.specs.Name.{is_letter, is_name_byte, is_name}
use Rattle.pc_base.specs.Number.{is_digit}
use Rattle.pc_wire.proofs.DecimalLemmas.{decimal_digits}
use Rattle.pc_wire.specs.Words.{is_space, is_between, words_of}
use Rattle.pc_wire.proofs.WordLemmas.{words_of-word}
use Rattle.pc_reply.specs.Items.{flag_digits, counts_text, gone_text, counted_text, MailboxRow, IsRow}
use Rattle.pc_reply.specs.FirstLine.{IsFirst}
use Rattle.pc_reply.specs.declared.first_line.FirstLine.TheVariants.{Gone, Counts}
use Rattle.pc_reply.proofs.FlagLemmas.{solid-flag_digits, length-flag_digits}

all_solid : (test : ℕ → Bool) → ((byte : ℕ) → test byte ≡ true → is_space byte ≡ false) → (bytes : List ℕ) → list_all test bytes ≡ true → list_any is_space bytes ≡ false
all_solid test apart [] all = refl
all_solid test apart (byte ∷ bytes) all =
    let parts = and_parts (test byte) (list_all test bytes) all in
    rw (apart byte parts.0, all_solid test apart bytes parts.1) refl

digit_solid : (byte : ℕ) → is_digit byte ≡ true → is_space byte ≡ false
digit_solid byte fits = grind (arith, nat_tests)

letter_solid : (byte : ℕ) → is_letter byte ≡ true → is_space byte ≡ false
letter_solid byte fits = grind (arith, nat_tests)

name_byte_solid : (byte : ℕ) → is_name_byte byte ≡ true → is_space byte ≡ false
name_byte_solid byte fits = grind (arith, nat_tests)

solid-name : (name : List ℕ) → IsTrue (is_name name) → list_any is_space name ≡ false
solid-name [] named = absurd (false≢true named)
solid-name (first ∷ others) named =
    let parts = and_parts (is_letter first && list_all is_name_byte others) (nat_lt (length others) 32) named in
    let front = and_parts (is_letter first) (list_all is_name_byte others) parts.0 in
    rw (letter_solid first front.0, all_solid is_name_byte name_byte_solid others front.1) refl

some-name : (name : List ℕ) → IsTrue (is_name name) → 0 < length name
some-name [] named = absurd (false≢true named)
some-name (first ∷ others) named = omega arith

-- a number in front is the first word
number_first : (number : ℕ) (rest : List ℕ) → number < 2 ^ 64 → is_between rest ≡ true → words_of (decimal number ++ rest) ≡ decimal number ∷ words_of rest
number_first number rest fits ends =
    let are = decimal_digits number fits in
    words_of-word (decimal number) rest (all_solid is_digit digit_solid (decimal number) are.digits) are.some ends

-- at the end of a text it's the last word
number_last : (number : ℕ) → number < 2 ^ 64 → words_of (decimal number) ≡ decimal number ∷ []
number_last number fits = ap words_of (sym (append-nil (decimal number))) ∙ number_first number [] fits refl

words_of-gone : (uid : ℕ) → uid < 2 ^ 32 → words_of (gone_text uid) ≡ decimal uid ∷ codes "EXPUNGED" ∷ []
words_of-gone uid fits = number_first uid (codes " EXPUNGED") (omega arith) refl

words_of-counts : (uid flags bytes lines : ℕ) → uid < 2 ^ 32 → bytes < 2 ^ 32 → lines < 2 ^ 32 → words_of (counts_text uid flags bytes lines) ≡ decimal uid ∷ flag_digits 16 flags ∷ decimal bytes ∷ decimal lines ∷ []
words_of-counts uid flags bytes lines fits_uid fits_bytes fits_lines =
    let shown = flag_digits 16 flags in
    let few : length shown ≡ 16 = length-flag_digits 16 flags in
    let behind : words_of (decimal bytes ++ 32 ∷ decimal lines) ≡ decimal bytes ∷ decimal lines ∷ [] = number_first bytes (32 ∷ decimal lines) (omega arith) refl ∙ ap (λ words. decimal bytes ∷ words) (number_last lines (omega arith)) in
    let after : words_of (shown ++ 32 ∷ (decimal bytes ++ 32 ∷ decimal lines)) ≡ shown ∷ decimal bytes ∷ decimal lines ∷ [] = words_of-word shown (32 ∷ (decimal bytes ++ 32 ∷ decimal lines)) (solid-flag_digits 16 flags) (omega arith) refl ∙ ap (λ words. shown ∷ words) behind in
    ap words_of (append_assoc (decimal uid ++ 32 ∷ shown) (32 ∷ decimal bytes) (32 ∷ decimal lines) ∙ append_assoc (decimal uid) (32 ∷ shown) (32 ∷ decimal bytes ++ 32 ∷ decimal lines)) ∙ number_first uid (32 ∷ (shown ++ 32 ∷ (decimal bytes ++ 32 ∷ decimal lines))) (omega arith) refl ∙ ap (λ words. decimal uid ∷ words) after

words_of-counted : (name : List ℕ) (first second : ℕ) → IsTrue (is_name name) → first < 2 ^ 32 → second < 2 ^ 32 → words_of (counted_text name first second) ≡ name ∷ decimal first ∷ decimal second ∷ []
words_of-counted name first second named fits_first fits_second =
    let behind : words_of (decimal first ++ 32 ∷ decimal second) ≡ decimal first ∷ decimal second ∷ [] = number_first first (32 ∷ decimal second) (omega arith) refl ∙ ap (λ words. decimal first ∷ words) (number_last second (omega arith)) in
    ap words_of (append_assoc name (32 ∷ decimal first) (32 ∷ decimal second)) ∙ words_of-word name (32 ∷ (decimal first ++ 32 ∷ decimal second)) (solid-name name named) (some-name name named) refl ∙ ap (λ words. name ∷ words) behind

-- the words of a line that is just such a text
pub gone_words : (line : List ℕ) (uid : ℕ) → IsFirst (Gone uid) line → words_of line ≡ decimal uid ∷ codes "EXPUNGED" ∷ []
gone_words line uid is = ap words_of is.0 ∙ words_of-gone uid is.1

pub counts_words : (line : List ℕ) (uid flags bytes lines : ℕ) → IsFirst (Counts uid flags bytes lines) line → words_of line ≡ decimal uid ∷ flag_digits 16 flags ∷ decimal bytes ∷ decimal lines ∷ []
counts_words line uid flags bytes lines is =
    ap words_of is.0 ∙ words_of-counts uid flags bytes lines is.1.0 is.1.2 is.1.3

pub row_words : (line : List ℕ) (row : MailboxRow) → IsRow row line → words_of line ≡ row.name ∷ decimal row.live ∷ decimal row.highest ∷ []
row_words line row is =
    ap words_of is.0 ∙ words_of-counted row.name row.live row.highest is.1.name is.1.live is.1.highest
