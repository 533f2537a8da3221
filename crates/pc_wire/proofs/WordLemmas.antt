-- Words: where they begin and end.
use Rattle.std.proofs.Common.{◌≡◌, ℕ, ◌+◌, ◌<◌, Bool, true, false, cond, not, List, [], ◌∷◌, ◌++◌, length, take, drop, sym, refl, ap, ◌∙◌, arith, one-add}
use Rattle.std.specs.List.{list_any, onto_first, position_or_len}
use Rattle.std.proofs.lemmas.Bool.{or_parts, false≢true}
use Rattle.std.proofs.lemmas.List.{nil_from_length}
use Rattle.pc_wire.specs.Words.{is_space, is_between, with_byte, words_of, without_spaces, from_space, after_word}

-- the text before its first space
pub until_space : List ℕ → List ℕ
until_space [] = []
until_space (b ∷ bs) = cond (is_space b) [] (b ∷ until_space bs)

-- spaces in front are no words
pub words_of-without_spaces : (text : List ℕ) → words_of (without_spaces text) ≡ words_of text
words_of-without_spaces [] = refl
words_of-without_spaces (b ∷ bs) = by_test (is_space b) refl (words_of-without_spaces bs)
  where
    by_test : (t : Bool) → is_space b ≡ t → words_of (without_spaces bs) ≡ words_of bs → words_of (cond t (without_spaces bs) (b ∷ bs)) ≡ words_of (b ∷ bs)
    by_test true e rest = rw e rest
    by_test false e rest = refl

-- what is left begins with a word, if anything is
pub without_spaces-begins : (text : List ℕ) → 0 < length (without_spaces text) → is_between (without_spaces text) ≡ false
without_spaces-begins [] some = absurd (omega arith)
without_spaces-begins (b ∷ bs) some = by_test (is_space b) refl some (without_spaces-begins bs)
  where
    by_test : (t : Bool) → is_space b ≡ t → 0 < length (cond t (without_spaces bs) (b ∷ bs)) → (0 < length (without_spaces bs) → is_between (without_spaces bs) ≡ false) → is_between (cond t (without_spaces bs) (b ∷ bs)) ≡ false
    by_test true e some rest = rest some
    by_test false e some rest = e

-- a text that begins with a word has it first
pub words_of-first : (text : List ℕ) → is_between text ≡ false → words_of text ≡ until_space text ∷ words_of (from_space text)
unfolding until_space
words_of-first [] h = absurd (false≢true (sym h))
words_of-first (b ∷ []) h = rw h refl
words_of-first (b ∷ c ∷ cs) h = rw h (by_test (is_space c) refl (words_of-first (c ∷ cs)))
  where
    by_test : (t : Bool) → is_space c ≡ t → (is_space c ≡ false → words_of (c ∷ cs) ≡ until_space (c ∷ cs) ∷ words_of (from_space (c ∷ cs))) → cond t ((b ∷ []) ∷ words_of (c ∷ cs)) (onto_first b (words_of (c ∷ cs))) ≡ (b ∷ cond t [] (c ∷ until_space cs)) ∷ words_of (cond t (c ∷ cs) (from_space cs))
    by_test true e rest = refl
    by_test false e rest = rw (rest e, e) refl

-- both by the place of the first space
pub until_space-is : (text : List ℕ) → until_space text ≡ take (position_or_len is_space text) text
unfolding until_space
until_space-is [] = refl
until_space-is (b ∷ bs) = by_test (is_space b) (until_space-is bs)
  where
    by_test : (t : Bool) → until_space bs ≡ take (position_or_len is_space bs) bs → cond t [] (b ∷ until_space bs) ≡ take (cond (not t) (1 + position_or_len is_space bs) 0) (b ∷ bs)
    by_test true rest = refl
    by_test false rest = rw (one-add (position_or_len is_space bs)) (ap (λ bytes. b ∷ bytes) rest)

pub from_space-is : (text : List ℕ) → from_space text ≡ drop (position_or_len is_space text) text
from_space-is [] = refl
from_space-is (b ∷ bs) = by_test (is_space b) (from_space-is bs)
  where
    by_test : (t : Bool) → from_space bs ≡ drop (position_or_len is_space bs) bs → cond t (b ∷ bs) (from_space bs) ≡ drop (cond (not t) (1 + position_or_len is_space bs) 0) (b ∷ bs)
    by_test true rest = refl
    by_test false rest = rw (one-add (position_or_len is_space bs)) rest

pub without_spaces-is : (text : List ℕ) → without_spaces text ≡ drop (position_or_len (λ byte. not (is_space byte)) text) text
without_spaces-is [] = refl
without_spaces-is (b ∷ bs) = by_test (is_space b) (without_spaces-is bs)
  where
    by_test : (t : Bool) → without_spaces bs ≡ drop (position_or_len (λ byte. not (is_space byte)) bs) bs → cond t (without_spaces bs) (b ∷ bs) ≡ drop (cond (not (not t)) (1 + position_or_len (λ byte. not (is_space byte)) bs) 0) (b ∷ bs)
    by_test true rest = rw (one-add (position_or_len (λ byte. not (is_space byte)) bs)) rest
    by_test false rest = refl

-- where nothing is left but spaces there is no word
pub words_of-none : (text left : List ℕ) → left ≡ without_spaces text → length left ≡ 0 → words_of text ≡ []
words_of-none text left e none =
    sym (words_of-without_spaces text) ∙ ap words_of (sym e ∙ nil_from_length left none)

-- what is left is cut at its first space
pub words_of-cut : (text left word rest : List ℕ) (place : ℕ) → left ≡ without_spaces text → 0 < length left → place ≡ position_or_len is_space left → word ≡ take place left → rest ≡ drop place left → (words_of text ≡ word ∷ words_of rest) × (rest ≡ after_word text)
words_of-cut text left word rest place e some at front back =
    let begins : is_between left ≡ false = ap is_between e ∙ without_spaces-begins text (omega (arith, ap length e)) in
    let until : word ≡ until_space left = front ∙ ap (λ n. take n left) at ∙ sym (until_space-is left) in
    let from : rest ≡ from_space left = back ∙ ap (λ n. drop n left) at ∙ sym (from_space-is left) in (
      sym (words_of-without_spaces text) ∙ ap words_of (sym e) ∙ words_of-first left begins ∙ rw (← until, ← from) refl,
      from ∙ ap from_space e,
    )

-- a word in front is the first word, where no word goes on behind it
pub words_of-word : (word rest : List ℕ) → list_any is_space word ≡ false → 0 < length word → is_between rest ≡ true → words_of (word ++ rest) ≡ word ∷ words_of rest
words_of-word [] rest apart some ends = absurd (omega (arith, some))
words_of-word (byte ∷ []) rest apart some ends =
    let parts = or_parts (is_space byte) false apart in
    rw (parts.0, ends)
words_of-word (byte ∷ next ∷ bytes) rest apart some ends =
    let parts = or_parts (is_space byte) (list_any is_space (next ∷ bytes)) apart in
    let others = or_parts (is_space next) (list_any is_space bytes) parts.1 in
    let behind : words_of ((next ∷ bytes) ++ rest) ≡ (next ∷ bytes) ∷ words_of rest = words_of-word (next ∷ bytes) rest parts.1 (omega arith) ends in
    ap (with_byte byte (is_space next)) behind ∙ rw (parts.0, others.0)
