-- A line that says `ask`, one space and a name.
use Rattle.std.proofs.Common.{◌≡◌, ℕ, ◌<◌, ◌≤◌, true, false, ◌&&◌, nat_lt, IsTrue, codes, List, [], ◌∷◌, ◌++◌, length, refl, sym, ap, ◌∙◌, subst, arith}
use Rattle.std.specs.List.{list_any, list_all}
use Rattle.std.proofs.lemmas.Bool.{and_parts, or_parts, false≢true}
use Rattle.std.proofs.lemmas.Bool.Decides.{nat_tests}
use Rattle.pc_base.specs.Name.{is_letter, is_name_byte, is_name}
use Rattle.pc_wire.specs.Words.{is_space, is_between, words_of, without_spaces, from_space}
use Rattle.pc_wire.proofs.WordLemmas.{words_of-without_spaces, words_of-word}
use Rattle.pc_world.specs.Events.{most_line, text_asked}
use Rattle.pc_world.specs.Reading.{IsAsking}

-- ---- a name has no space

letter_solid : (byte : ℕ) → is_letter byte ≡ true → is_space byte ≡ false
letter_solid byte fits = grind (arith, nat_tests)

name_byte_solid : (byte : ℕ) → is_name_byte byte ≡ true → is_space byte ≡ false
name_byte_solid byte fits = grind (arith, nat_tests)

all_solid : (bytes : List ℕ) → list_all is_name_byte bytes ≡ true → list_any is_space bytes ≡ false
all_solid [] all = refl
all_solid (byte ∷ bytes) all =
    let parts = and_parts (is_name_byte byte) (list_all is_name_byte bytes) all in
    rw (name_byte_solid byte parts.0, all_solid bytes parts.1) refl

solid-name : (name : List ℕ) → IsTrue (is_name name) → list_any is_space name ≡ false
solid-name [] named = absurd (false≢true named)
solid-name (first ∷ others) named =
    let parts = and_parts (is_letter first && list_all is_name_byte others) (nat_lt (length others) 32) named in
    let front = and_parts (is_letter first) (list_all is_name_byte others) parts.0 in
    rw (letter_solid first front.0, all_solid others front.1) refl

some-name : (name : List ℕ) → IsTrue (is_name name) → 0 < length name
some-name [] named = absurd (false≢true named)
some-name (first ∷ others) named = omega arith

-- ---- what is behind a word

from_space-word : (word rest : List ℕ) → list_any is_space word ≡ false → is_between rest ≡ true → from_space (word ++ rest) ≡ rest
from_space-word [] [] solid ends = refl
from_space-word [] (byte ∷ bytes) solid ends = rw ends refl
from_space-word (byte ∷ bytes) rest solid ends =
    let parts = or_parts (is_space byte) (list_any is_space bytes) solid in
    rw parts.0 (from_space-word bytes rest parts.1 ends)

without_spaces-word : (word rest : List ℕ) → list_any is_space word ≡ false → 0 < length word → without_spaces (word ++ rest) ≡ word ++ rest
without_spaces-word [] rest solid some = absurd (omega (arith, some))
without_spaces-word (byte ∷ bytes) rest solid some = rw (or_parts (is_space byte) (list_any is_space bytes) solid).0 refl

-- ---- the line

pub asks_by_name : (line name behind rest text : List ℕ) → length line ≤ most_line → line ≡ 97 ∷ 115 ∷ 107 ∷ 32 ∷ behind → behind ≡ name ++ rest → is_between rest ≡ true → IsTrue (is_name name) → text ≡ without_spaces rest → IsAsking line name text
asks_by_name line name behind rest text short begins splits ends named is =
    let solid = solid-name name named in
    let some = some-name name named in
    let after : text_asked (97 ∷ 115 ∷ 107 ∷ 32 ∷ behind) ≡ without_spaces rest =
    ap without_spaces (ap from_space (ap without_spaces splits ∙ without_spaces-word name rest solid some) ∙ from_space-word name rest solid ends) in
    let first : words_of behind ≡ name ∷ words_of rest = ap words_of splits ∙ words_of-word name rest solid some ends in
    let others : words_of (text_asked (97 ∷ 115 ∷ 107 ∷ 32 ∷ behind)) ≡ words_of rest = ap words_of after ∙ words_of-without_spaces rest in
    let asking : IsAsking (97 ∷ 115 ∷ 107 ∷ 32 ∷ behind) name text = record {
      short = subst (λ (l : List ℕ). length l ≤ most_line) begins short;
      loud = refl;
      split = ap (λ (ws : List (List ℕ)). codes "ask" ∷ ws) (first ∙ ap (λ (ws : List (List ℕ)). name ∷ ws) (sym others));
      text_is = is ∙ sym after;
    } in
    subst (λ (l : List ℕ). IsAsking l name text) (sym begins) asking
