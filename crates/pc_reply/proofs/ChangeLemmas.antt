-- Changes and their lines: one change a front, and the line at which none goes on.
use Rattle.std.proofs.Common.{◌≡◌, ℕ, zero, suc, ◌+◌, ◌-◌, ◌<◌, ◌≤◌, Bool, true, false, min, List, [], ◌∷◌, ◌++◌, length, take, drop, get_or, replicate, refl, sym, ap, subst, ◌∙◌, arith, length-append, one-add, inl, inr, Ok, Err}
use Rattle.std.proofs.lemmas.List.{get_or-take, get_or_default, length-take, length-take-le, length-replicate, take_all}
use Rattle.std.proofs.lemmas.Bool.{cases_lt, false≢true}
use Rattle.std.proofs.Math.ListN.{get_or-append}
use Rattle.std.proofs.Math.Seq.{get_or-append_right}
use Rattle.pc_message.specs.declared.descriptor.Descriptor.{Descriptor}
use Rattle.pc_message.specs.declared.descriptor.Change.{Change}
use Rattle.pc_message.specs.declared.descriptor.Change.TheVariants.{Present, Expunged}
use Rattle.pc_reply.specs.Lists.{IsBadItem}
use Rattle.pc_reply.specs.Items.{counts_text, gone_text, descriptor_lines, change_lines, uid_of, IsShort, DescriptorFits, ChangeFits}
use Rattle.pc_reply.specs.FirstLine.{first_text, FirstFits, IsFirst, first_uid}
use Rattle.pc_reply.specs.Changes.{HasShort, ReadsItem, ReadsFirst}
use Rattle.pc_reply.specs.declared.items.ItemFault.{ItemFault}
use Rattle.pc_reply.specs.declared.items.ItemFault.TheVariants.{Bad, Memory}
use Rattle.pc_reply.specs.declared.first_line.FirstLine.{FirstLine}
use Rattle.pc_reply.specs.declared.first_line.FirstLine.TheVariants.{Gone, Counts}
use Rattle.pc_reply.proofs.FirstLines.{one_first}

-- the next text has more than 128 bytes
pub short_up_to : (lines : List (List ℕ)) (cut place : ℕ) (line : List ℕ) → cut ≡ min 4 (length lines) → place < length (take cut lines) → ((k : ℕ) → k < place → length (get_or (take cut lines) k []) ≤ 128) → line ≡ get_or (take cut lines) place line → (IsShort line → ⊥) → HasShort lines place
short_up_to lines cut place line is below short here long =
    let size : length (take cut lines) ≡ min cut (length lines) = length-take cut lines in
    record {
      few = omega arith;
      within = omega arith;
      short = λ k less. subst IsShort (get_or-take cut lines k [] (omega arith)) (short k less);
      long = λ _ _.
          let at : line ≡ get_or lines place [] = here ∙ get_or_default (take cut lines) place line [] below ∙ get_or-take cut lines place [] (omega arith) in
          elim (cases_lt 128 (length line)) [ inl past ↦ omega (arith, ap length at, past) | inr few ↦ absurd (long few) ];
    }

-- the first line of a change, and the texts behind it
pub first_of : Change → FirstLine
first_of (Present d) = Counts d.uid d.flags d.bytes d.lines
first_of (Expunged uid) = Gone uid

texts_of : Change → List (List ℕ)
texts_of (Present d) = d.date ∷ d.from ∷ d.to ∷ d.subject ∷ []
texts_of (Expunged uid) = []

change_lines-parts : (change : Change) → change_lines change ≡ first_text (first_of change) ∷ texts_of change
unfolding first_of texts_of
change_lines-parts (Present d) = refl
change_lines-parts (Expunged uid) = refl

first_fits : (change : Change) → ChangeFits change → FirstFits (first_of change)
unfolding first_of
first_fits (Present d) fits = (fits.uid, fits.flags, fits.bytes, fits.lines)
first_fits (Expunged uid) fits = fits

uid_first : (change : Change) → first_uid (first_of change) ≡ uid_of change
unfolding first_of
uid_first (Present d) = refl
uid_first (Expunged uid) = refl

-- lines that begin with a change begin with its first line
pub first_is : (change : Change) (line : List ℕ) (more rest : List (List ℕ)) → ChangeFits change → change_lines change ++ more ≡ line ∷ rest → IsFirst (first_of change) line
first_is change line more rest fits e =
    let both : first_text (first_of change) ∷ (texts_of change ++ more) ≡ line ∷ rest = ap (λ lines. lines ++ more) (sym (change_lines-parts change)) ∙ e in
    (cc, first_fits change fits)

descriptor_of : ℕ → ℕ → ℕ → ℕ → List ℕ → List ℕ → List ℕ → List ℕ → Descriptor
descriptor_of u f b l date from to subject =
    record { uid = u; flags = f; bytes = b; lines = l; date = date; from = from; to = to; subject = subject }

-- a descriptor is its parts
parts_same : (d e : Descriptor) → d.uid ≡ e.uid → d.flags ≡ e.flags → d.bytes ≡ e.bytes → d.lines ≡ e.lines → d.date ≡ e.date → d.from ≡ e.from → d.to ≡ e.to → d.subject ≡ e.subject → d ≡ e
unfolding descriptor_of
parts_same d e u f b l date from to subject =
    let made : descriptor_of d.uid d.flags d.bytes d.lines d.date d.from d.to d.subject ≡ descriptor_of e.uid e.flags e.bytes e.lines e.date e.from e.to e.subject = same d.uid e.uid d.flags e.flags d.bytes e.bytes d.lines e.lines d.date e.date d.from e.from d.to e.to d.subject e.subject u f b l date from to subject in
    made
  where
    same : (u u' f f' b b' l l' : ℕ) (p p' q q' r r' s s' : List ℕ) → u ≡ u' → f ≡ f' → b ≡ b' → l ≡ l' → p ≡ p' → q ≡ q' → r ≡ r' → s ≡ s' → descriptor_of u f b l p q r s ≡ descriptor_of u' f' b' l' p' q' r' s'
    same u u' f f' b b' l l' p p' q q' r r' s s' e0 e1 e2 e3 e4 e5 e6 e7 = rw (e0, e1, e2, e3, e4, e5, e6, e7) refl

-- lines begin with at most one change
pub one_change : (one other : Change) (more rest : List (List ℕ)) → ChangeFits one → ChangeFits other → change_lines one ++ more ≡ change_lines other ++ rest → (one ≡ other) × (more ≡ rest)
one_change (Present d) (Present e) more rest fits fit same =
    let lines : counts_text d.uid d.flags d.bytes d.lines ∷ d.date ∷ d.from ∷ d.to ∷ d.subject ∷ more ≡ counts_text e.uid e.flags e.bytes e.lines ∷ e.date ∷ e.from ∷ e.to ∷ e.subject ∷ rest = same in
    let line : counts_text d.uid d.flags d.bytes d.lines ≡ counts_text e.uid e.flags e.bytes e.lines = cc in
    let first : Counts d.uid d.flags d.bytes d.lines ≡ Counts e.uid e.flags e.bytes e.lines = one_first (Counts d.uid d.flags d.bytes d.lines) (Counts e.uid e.flags e.bytes e.lines) (counts_text d.uid d.flags d.bytes d.lines) (refl, (fits.uid, fits.flags, fits.bytes, fits.lines)) (line, (fit.uid, fit.flags, fit.bytes, fit.lines)) in
    (ap Present (parts_same d e (cc) (cc) (cc) (cc) (cc) (cc) (cc) (cc)), cc)
one_change (Present d) (Expunged uid) more rest fits fit same =
    let lines : counts_text d.uid d.flags d.bytes d.lines ∷ d.date ∷ d.from ∷ d.to ∷ d.subject ∷ more ≡ gone_text uid ∷ rest = same in
    let first : Counts d.uid d.flags d.bytes d.lines ≡ Gone uid = one_first (Counts d.uid d.flags d.bytes d.lines) (Gone uid) (counts_text d.uid d.flags d.bytes d.lines) (refl, (fits.uid, fits.flags, fits.bytes, fits.lines)) (cc, fit) in
    absurd (cc)
one_change (Expunged uid) (Present d) more rest fits fit same =
    let lines : gone_text uid ∷ more ≡ counts_text d.uid d.flags d.bytes d.lines ∷ d.date ∷ d.from ∷ d.to ∷ d.subject ∷ rest = same in
    let first : Gone uid ≡ Counts d.uid d.flags d.bytes d.lines = one_first (Gone uid) (Counts d.uid d.flags d.bytes d.lines) (gone_text uid) (refl, fits) (cc, (fit.uid, fit.flags, fit.bytes, fit.lines)) in
    absurd (cc)
one_change (Expunged uid) (Expunged other) more rest fits fit same =
    let lines : gone_text uid ∷ more ≡ gone_text other ∷ rest = same in
    let first : Gone uid ≡ Gone other = one_first (Gone uid) (Gone other) (gone_text uid) (refl, fits) (cc, fit) in
    (ap Expunged (cc), cc)

pub some_lines : (change : Change) → 0 < length (change_lines change)
some_lines change = omega (arith, ap length (change_lines-parts change))

-- a line that is no first line of a new change
pub bad_first : (known : ℕ → Bool) (line : List ℕ) (rest : List (List ℕ)) → ((first : FirstLine) → IsFirst first line → known (first_uid first) ≡ true) → IsBadItem change_lines ChangeFits uid_of known (line ∷ rest) 0
bad_first known line rest none = record {
  within = omega arith;
  some = omega arith;
  before = λ less. absurd (omega arith);
  here = λ _ change more other new e.
      let first = none (first_of change) (first_is change line more other new.0 e) in
      false≢true (sym new.1 ∙ ap known (sym (uid_first change)) ∙ first);
  end = λ at. absurd (omega arith);
}

-- the texts of a descriptor
texts_list : Descriptor → List (List ℕ)
texts_list d = d.date ∷ d.from ∷ d.to ∷ d.subject ∷ []

-- any four short texts are those of one
with_texts : (uid flags bytes lines : ℕ) (texts : List (List ℕ)) → FirstFits (Counts uid flags bytes lines) → length texts ≡ 4 → ((k : ℕ) → k < 4 → IsShort (get_or texts k [])) → (d : Descriptor) × (DescriptorFits d × (descriptor_lines d ≡ counts_text uid flags bytes lines ∷ texts) × (d.uid ≡ uid))
with_texts uid flags bytes lines (date ∷ from ∷ to ∷ subject ∷ []) fits four short = (
  record { uid = uid; flags = flags; bytes = bytes; lines = lines; date = date; from = from; to = to; subject = subject },
  (record { uid = fits.0; flags = fits.1; bytes = fits.2; lines = fits.3; date = short 0 (omega arith); from = short 1 (omega arith); to = short 2 (omega arith); subject = short 3 (omega arith) }, refl, refl),
)
with_texts uid flags bytes lines [] fits four short = absurd (omega (arith, four))
with_texts uid flags bytes lines (_ ∷ []) fits four short = absurd (omega (arith, four))
with_texts uid flags bytes lines (_ ∷ _ ∷ []) fits four short = absurd (omega (arith, four))
with_texts uid flags bytes lines (_ ∷ _ ∷ _ ∷ []) fits four short = absurd (omega (arith, four))
with_texts uid flags bytes lines (_ ∷ _ ∷ _ ∷ _ ∷ _ ∷ _) fits four short = absurd (omega (arith, four))

-- an empty text
abbrev no_text : List ℕ
no_text = []

nothing_more : (n i : ℕ) → get_or (replicate n no_text) i no_text ≡ no_text
nothing_more zero i = refl
nothing_more (suc n) zero = refl
nothing_more (suc n) (suc i) = nothing_more n i

-- short texts, and empty ones up to four
filled_short : (texts : List (List ℕ)) (count : ℕ) → HasShort texts count → (k : ℕ) → k < 4 → IsShort (get_or (take count texts ++ replicate (4 - count) no_text) k [])
filled_short texts count has k below = elim (cases_lt k count) [ inl less ↦ front less | inr more ↦ back more ]
  where
    cut : length (take count texts) ≡ count
    cut = length-take-le count texts has.within

    front : k < count → IsShort (get_or (take count texts ++ replicate (4 - count) no_text) k [])
    front less = subst IsShort (sym (get_or-append (take count texts) (replicate (4 - count) no_text) [] k (omega (arith, cut)) ∙ get_or-take count texts k [] less)) (has.short k less)

    back : count ≤ k → IsShort (get_or (take count texts ++ replicate (4 - count) no_text) k [])
    back more =
        let empty : get_or (take count texts ++ replicate (4 - count) no_text) k [] ≡ [] = get_or-append_right (take count texts) (replicate (4 - count) no_text) k [] (omega (arith, cut)) ∙ nothing_more (4 - count) (k - length (take count texts)) in
        omega (arith, ap length empty)

short_text : (d : Descriptor) → DescriptorFits d → (k : ℕ) → k < 4 → IsShort (get_or (texts_list d) k [])
unfolding texts_list
short_text d fits zero below = fits.date
short_text d fits (suc zero) below = fits.from
short_text d fits (suc (suc zero)) below = fits.to
short_text d fits (suc (suc (suc zero))) below = fits.subject
short_text d fits (suc (suc (suc (suc k)))) below = absurd (omega arith)

four : (d : Descriptor) → length (texts_list d) ≡ 4
unfolding texts_list
four d = refl

-- a change with this first line is of a message that is there
the_present : (change : Change) (line : List ℕ) (uid flags bytes lines : ℕ) (more rest : List (List ℕ)) → IsFirst (Counts uid flags bytes lines) line → ChangeFits change → change_lines change ++ more ≡ line ∷ rest → (d : Descriptor) × (DescriptorFits d × (texts_list d ++ more ≡ rest))
unfolding first_of texts_list
the_present (Present d) line uid flags bytes lines more rest is fits e =
    let whole : counts_text d.uid d.flags d.bytes d.lines ∷ (texts_list d ++ more) ≡ line ∷ rest = e in
    (d, (fits, cc))
the_present (Expunged gone) line uid flags bytes lines more rest is fits e =
    let same : Gone gone ≡ Counts uid flags bytes lines = one_first (Gone gone) (Counts uid flags bytes lines) line (first_is (Expunged gone) line more rest fits e) is in
    absurd (cc)

-- the text at which no change goes on
bad_text_at : (known : ℕ → Bool) (line : List ℕ) (uid flags bytes lines : ℕ) (texts : List (List ℕ)) (count : ℕ) → IsFirst (Counts uid flags bytes lines) line → known uid ≡ false → HasShort texts count → count < 4 → IsBadItem change_lines ChangeFits uid_of known (line ∷ texts) (suc count)
bad_text_at known line uid flags bytes lines texts count is new has below = record {
  within = omega (arith, has.within);
  some = omega arith;
  before = λ _.
      let filled = take count texts ++ replicate (4 - count) no_text in
      let count_of : length filled ≡ 4 = omega (arith, length-append (take count texts) (replicate (4 - count) no_text), length-take-le count texts has.within, length-replicate (4 - count) no_text) in
      let made = with_texts uid flags bytes lines filled is.1 count_of (filled_short texts count has) in
      (Present made.0, (replicate (4 - count) no_text, ((made.1.0, ap known made.1.2 ∙ new), made.1.1 ∙ ap (λ first. first ∷ filled) (sym is.0))));
  here = λ less change more other unknown e.
      let more_by_one : suc count + 1 ≡ suc (suc count) = omega arith in
      let longer : take (suc count + 1) (line ∷ texts) ≡ line ∷ take (suc count) texts = ap (λ n. take n (line ∷ texts)) more_by_one in
      let present = the_present change line uid flags bytes lines more (take (suc count) texts ++ other) is unknown.0 (e ∙ ap (λ front. front ++ other) longer) in
      let left : get_or (texts_list present.0 ++ more) count [] ≡ get_or (texts_list present.0) count [] = get_or-append (texts_list present.0) more [] count (omega (arith, four present.0)) in
      let size : length (take (suc count) texts) ≡ suc count = length-take-le (suc count) texts (omega arith) in
      let right : get_or (take (suc count) texts ++ other) count [] ≡ get_or texts count [] = get_or-append (take (suc count) texts) other [] count (omega (arith, size)) ∙ get_or-take (suc count) texts count [] (omega arith) in
      let same : get_or (texts_list present.0) count [] ≡ get_or texts count [] = sym left ∙ ap (λ all. get_or all count []) present.1.1 ∙ right in
      omega (arith, ap length same, short_text present.0 present.1.0 count below, has.long below (omega arith));
  end = λ at change more unknown e.
      let present = the_present change line uid flags bytes lines more texts is unknown.0 e in
      omega (arith, ap length present.1.1, length-append (texts_list present.0) more, four present.0);
}

pub bad_text : (known : ℕ → Bool) (line : List ℕ) (uid flags bytes lines : ℕ) (texts : List (List ℕ)) (count : ℕ) → IsFirst (Counts uid flags bytes lines) line → known uid ≡ false → HasShort texts count → count < 4 → IsBadItem change_lines ChangeFits uid_of known (line ∷ texts) (1 + count)
bad_text known line uid flags bytes lines texts count is new has below =
    subst (λ (at : ℕ). IsBadItem change_lines ChangeFits uid_of known (line ∷ texts) at) (sym (one-add count)) (bad_text_at known line uid flags bytes lines texts count is new has below)

-- some lines are the first and the others
pub first_and_others : (lines : List (List ℕ)) (line bytes : List ℕ) → 0 < length lines → line ≡ get_or lines 0 line → bytes ≡ line → lines ≡ bytes ∷ take (length lines - 1) (drop 1 lines)
first_and_others [] line bytes some is same = absurd (omega (arith, some))
first_and_others (first ∷ others) line bytes some is same =
    let all : take (length (first ∷ others) - 1) others ≡ others = take_all (length (first ∷ others) - 1) others (omega arith) in
    ap (λ one. one ∷ others) (sym (same ∙ is)) ∙ ap (λ more. bytes ∷ more) (sym all)

-- where no first line is read no change is
pub read_fault : (known : ℕ → Bool) (lines texts : List (List ℕ)) (line : List ℕ) (e : ItemFault) → lines ≡ line ∷ texts → ReadsFirst known line (Err e) → ReadsItem change_lines ChangeFits uid_of known lines (Err e)
read_fault known lines texts line (Bad at) is reads =
    let here : IsBadItem change_lines ChangeFits uid_of known (line ∷ texts) at = subst (λ (n : ℕ). IsBadItem change_lines ChangeFits uid_of known (line ∷ texts) n) (sym reads.0) (bad_first known line texts reads.1) in
    subst (λ (all : List (List ℕ)). IsBadItem change_lines ChangeFits uid_of known all at) (sym is) here
read_fault known lines texts line Memory is reads = tt

-- where a text is missing or too long none is
pub text_fault : (known : ℕ → Bool) (lines texts : List (List ℕ)) (line : List ℕ) (first : FirstLine) (uid flags bytes count_lines count : ℕ) → lines ≡ line ∷ texts → first ≡ Counts uid flags bytes count_lines → ReadsFirst known line (Ok first) → HasShort texts count → count < 4 → IsBadItem change_lines ChangeFits uid_of known lines (1 + count)
text_fault known lines texts line first uid flags bytes count_lines count is counts reads has below =
    let P : FirstLine → Type 0 = λ first. ReadsFirst known line (Ok first) in
    let read = subst P counts reads in
    subst (λ (all : List (List ℕ)). IsBadItem change_lines ChangeFits uid_of known all (1 + count)) (sym is) (bad_text known line uid flags bytes count_lines texts count read.0 read.1 has below)
