-- The texts of a header's fields.
use Rattle.std.proofs.Common.{◌≡◌, ◌≢◌, ◌==◌, ◌<◌, ℕ, Bool, true, false, not, cond, List, [], ◌∷◌, ◌++◌, length, min, take, refl, sym, ap, ◌∙◌, arith, length-append}
use Rattle.std.proofs.lemmas.Bool.{false≢true}
use Rattle.std.proofs.lemmas.Bool.Decides.{nat_tests}
use Rattle.std.proofs.lemmas.List.{take_min}
use Rattle.std.proofs.lemmas.List.Sums.{take_while-cons}
use Rattle.std.specs.Char.{to_ascii_lowercase}
use Rattle.std.specs.List.{after_first, concat, take_while}
use Rattle.pc_message.specs.Header.{IsField, IsHeaderEnd, trimmed, header_of, is_blank, is_folded, has_name, field_text, texts_of}

-- the text is that of its field
pub field_text-built : (line : List ℕ) (folded : List (List ℕ)) (whole text : List ℕ) → whole ≡ after_first (λ byte. byte == 58) line ++ concat folded → text ≡ trimmed whole → text ≡ field_text line folded
unfolding field_text
field_text-built line folded whole text built same = same ∙ ap trimmed built

pub field_text-cut : (line : List ℕ) (folded : List (List ℕ)) (whole text : List ℕ) (n : ℕ) → whole ≡ after_first (λ byte. byte == 58) line ++ concat folded → text ≡ trimmed whole → n ≡ min 128 (length text) → take n text ≡ take 128 (field_text line folded)
field_text-cut line folded whole text n built same cut =
    ap (λ k. take k text) cut ∙ take_min 128 text ∙ ap (take 128) (field_text-built line folded whole text built same)

-- a line that isn't empty is in the header
pub header_of-cons : (line : List ℕ) (lines : List (List ℕ)) → (length line == 0) ≡ false → header_of (line ∷ lines) ≡ line ∷ header_of lines
header_of-cons line lines filled =
    take_while-cons (λ line. not (length line == 0)) line lines ∙ ap (λ empty. cond (not empty) (line ∷ header_of lines) []) filled

pub header_of-end : (lines : List (List ℕ)) → IsHeaderEnd lines → header_of lines ≡ []
header_of-end [] end = refl
header_of-end (line ∷ lines) end =
    take_while-cons (λ line. not (length line == 0)) line lines ∙ ap (λ empty. cond (not empty) (line ∷ header_of lines) []) end

-- a folded line isn't empty
folded-filled : (line : List ℕ) → is_folded line ≡ true → (length line == 0) ≡ false
folded-filled [] folded = absurd (false≢true folded)
folded-filled (byte ∷ line) folded = grind (arith, nat_tests)

-- the lines folded under a field are in the header
header-folded : (lines : List (List ℕ)) → take_while is_folded (header_of lines) ≡ take_while is_folded lines
header-folded [] = refl
header-folded ([] ∷ lines) = refl
header-folded ((byte ∷ line) ∷ lines) =
    ap (take_while is_folded) (header_of-cons (byte ∷ line) lines (grind (arith, nat_tests)))
    ∙ take_while-cons is_folded (byte ∷ line) (header_of lines)
    ∙ ap (λ under. cond (is_blank byte) ((byte ∷ line) ∷ under) []) (header-folded lines)
    ∙ sym (take_while-cons is_folded (byte ∷ line) lines)

take_while-head : (test : List ℕ → Bool) (line : List ℕ) (lines front : List (List ℕ)) → take_while test (line ∷ lines) ≡ line ∷ front → (test line ≡ true) × (take_while test lines ≡ front)
take_while-head test line lines front same =
    let here : cond (test line) (line ∷ take_while test lines) [] ≡ line ∷ front = sym (take_while-cons test line lines) ∙ same in
    elim (test line) as (λ (b : Bool). cond b (line ∷ take_while test lines) [] ≡ line ∷ front → (b ≡ true) × (take_while test lines ≡ front)) [ true ↦ λ e. (refl, cc) | false ↦ λ e. absurd cc ] here

-- no field begins among folded lines
texts_of-skip : (test : List ℕ → Bool) (folded rest : List (List ℕ)) → ((line : List ℕ) → is_folded line ≡ true → test line ≡ false) → take_while is_folded (folded ++ rest) ≡ folded → texts_of test (header_of (folded ++ rest)) ≡ texts_of test (header_of rest)
unfolding texts_of
texts_of-skip test [] rest skips are = refl
texts_of-skip test (line ∷ folded) rest skips are =
    let parts = take_while-head is_folded line (folded ++ rest) folded are in
    let others = texts_of test (header_of (folded ++ rest)) in
    ap (texts_of test) (header_of-cons line (folded ++ rest) (folded-filled line parts.0))
    ∙ ap (λ (named : Bool). cond named (field_text line (take_while is_folded (header_of (folded ++ rest))) ∷ others) others) (skips line parts.0)
    ∙ texts_of-skip test folded rest skips parts.1

-- the texts of a header, one field on, for a test that no folded line passes
pub texts_of-next : (test : List ℕ → Bool) (lines : List (List ℕ)) (line : List ℕ) (folded rest : List (List ℕ)) → ((line : List ℕ) → is_folded line ≡ true → test line ≡ false) → IsField lines line folded rest → texts_of test (header_of lines) ≡ cond (test line) (field_text line folded ∷ texts_of test (header_of rest)) (texts_of test (header_of rest))
unfolding texts_of
texts_of-next test lines line folded rest skips field =
    let others = texts_of test (header_of (folded ++ rest)) in
    ap (λ (all : List (List ℕ)). texts_of test (header_of all)) field.spelled
    ∙ ap (texts_of test) (header_of-cons line (folded ++ rest) field.filled)
    ∙ ap (λ (under : List (List ℕ)). cond (test line) (field_text line under ∷ others) others) (header-folded (folded ++ rest) ∙ field.folded_are)
    ∙ ap (λ (more : List (List ℕ)). cond (test line) (field_text line folded ∷ more) more) (texts_of-skip test folded rest skips field.folded_are)

-- a folded line has no name that begins otherwise
pub has_name-folded : (first : ℕ) (name : List ℕ) → is_blank (to_ascii_lowercase first) ≡ false → (line : List ℕ) → is_folded line ≡ true → has_name (first ∷ name) line ≡ false
has_name-folded first name sharp [] folded = absurd (false≢true folded)
has_name-folded first name sharp (byte ∷ line) folded =
    let small : to_ascii_lowercase byte ≡ byte = grind (arith, nat_tests) in
    let other : to_ascii_lowercase byte ≢ to_ascii_lowercase first = λ same. false≢true (sym sharp ∙ ap is_blank (sym same ∙ small) ∙ folded) in
    let fails : (to_ascii_lowercase byte == to_ascii_lowercase first) ≡ false = grind (arith, nat_tests) in
    rw fails refl

pub length-rest : (lines : List (List ℕ)) (line : List ℕ) (folded rest : List (List ℕ)) → IsField lines line folded rest → length rest < length lines
length-rest lines line folded rest field = rw field.spelled (omega (arith, length-append folded rest))
