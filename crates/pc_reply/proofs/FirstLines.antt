-- A line is at most one first line of a change.
use Rattle.std.proofs.Common.{◌≡◌, ℕ, ◌^◌, ◌<◌, Some, codes, decimal, List, [], ◌∷◌, sym, ap, ◌∙◌, arith}
use Rattle.pc_wire.proofs.DecimalLemmas.{decimal_differ}
use Rattle.pc_reply.specs.Items.{flag_digits}
use Rattle.pc_reply.specs.FirstLine.{IsFirst, flags_shown}
use Rattle.pc_reply.specs.declared.first_line.FirstLine.{FirstLine}
use Rattle.pc_reply.specs.declared.first_line.FirstLine.TheVariants.{Gone, Counts}
use Rattle.pc_reply.proofs.FlagLemmas.{flags_shown-digits}
use Rattle.pc_reply.proofs.WordTexts.{gone_words, counts_words}

number_same : (n m : ℕ) → n < 2 ^ 32 → m < 2 ^ 32 → decimal n ≡ decimal m → n ≡ m
number_same n m fits fit same = decimal_differ n m (omega arith) (omega arith) same

flags_same : (n m : ℕ) → n < 2 ^ 16 → m < 2 ^ 16 → flag_digits 16 n ≡ flag_digits 16 m → n ≡ m
flags_same n m fits fit same =
    sym (flags_shown-digits 16 n fits) ∙ ap flags_shown same ∙ flags_shown-digits 16 m fit

pub one_first : (one other : FirstLine) (line : List ℕ) → IsFirst one line → IsFirst other line → one ≡ other
one_first (Gone uid) (Gone other) line is also =
    let words : decimal uid ∷ codes "EXPUNGED" ∷ [] ≡ decimal other ∷ codes "EXPUNGED" ∷ [] = sym (gone_words line uid is) ∙ gone_words line other also in
    ap Gone (number_same uid other is.1 also.1 (cc))
one_first (Gone uid) (Counts other flags bytes lines) line is also =
    let words : decimal uid ∷ codes "EXPUNGED" ∷ [] ≡ decimal other ∷ flag_digits 16 flags ∷ decimal bytes ∷ decimal lines ∷ [] = sym (gone_words line uid is) ∙ counts_words line other flags bytes lines also in
    absurd (cc)
one_first (Counts uid flags bytes lines) (Gone other) line is also =
    let words : decimal other ∷ codes "EXPUNGED" ∷ [] ≡ decimal uid ∷ flag_digits 16 flags ∷ decimal bytes ∷ decimal lines ∷ [] = sym (gone_words line other also) ∙ counts_words line uid flags bytes lines is in
    absurd (cc)
one_first (Counts u f b l) (Counts u' f' b' l') line is also =
    let words : decimal u ∷ flag_digits 16 f ∷ decimal b ∷ decimal l ∷ [] ≡ decimal u' ∷ flag_digits 16 f' ∷ decimal b' ∷ decimal l' ∷ [] = sym (counts_words line u f b l is) ∙ counts_words line u' f' b' l' also in
    rw (number_same u u' is.1.0 also.1.0 (cc), flags_same f f' is.1.1 also.1.1 (cc), number_same b b' is.1.2 also.1.2 (cc), number_same l l' is.1.3 also.1.3 (cc))

pub some_first : (one other : FirstLine) (line : List ℕ) → IsFirst one line → IsFirst other line → Some one ≡ Some other
some_first one other line is also = ap Some (one_first one other line is also)
