-- Feeds: what is kept of the bytes that came, and what is shown of it.
use Rattle.std.proofs.Common.{◌≡◌, ℕ, ◌+◌, ◌-◌, ◌<◌, ◌≤◌, ◌↔◌, Bool, true, false, cond, not, eqb, ◌||◌, inl, inr, List, [], ◌∷◌, ◌++◌, length, take, drop, sym, refl, ap, subst, ◌∙◌, arith, append_assoc, length-append, length-take, one-add, min}
use Rattle.std.specs.List.{concat, position_or_len}
use Rattle.std.specs.Io.BufRead.{take_through}
use Rattle.std.proofs.lemmas.List.{append-nil, take_all, take-take, take-append-le, take-append-drop, take_min, length-take-le}
use Rattle.std.proofs.Math.Seq.{take-append-add}
use Rattle.std.proofs.lemmas.Bool.{or_parts, or_from, cases_Bool, cases_lt, false≢true, eqb-true, ne_eqb, MatchBool-at_true, MatchBool-at_false}
use Rattle.pc_wire.specs.Lines.{is_feed, has_feed, lines_of, before_feed, without_return}
use Rattle.pc_wire.specs.LineFeed.{FeedState, fed, Feeds, FeedsAll, IsOver}
use Rattle.pc_wire.specs.Next.{ShowsLine, ShowsNext, ShowsLast}
use Rattle.pc_wire.specs.declared.line_feed.Next.{Next}
use Rattle.pc_wire.specs.declared.line_feed.Next.TheVariants.{Line, More, TooLong}
use Rattle.pc_wire.proofs.LineLemmas.{has_feed-append, open-append, lines_of-feed, return_or_none, before_feed-feed}
use Rattle.pc_wire.proofs.PlaceLemmas.{place-within}

pub before_feed-append : (since piece : List ℕ) → has_feed since ≡ false → before_feed (since ++ piece) ≡ since ++ before_feed piece
before_feed-append [] piece h = refl
before_feed-append (b ∷ bs) piece h =
    let p = or_parts (is_feed b) (has_feed bs) h in rw p.0 (ap (λ bytes. b ∷ bytes) (before_feed-append bs piece p.1))

-- nothing that follows an LF counts
pub before_feed-past : (since piece : List ℕ) → has_feed since ≡ true → before_feed (since ++ piece) ≡ before_feed since
before_feed-past [] piece h = absurd (false≢true h)
before_feed-past (b ∷ bs) piece h = by_test (is_feed b) h (before_feed-past bs piece)
  where
    by_test : (t : Bool) → (t || has_feed bs) ≡ true → (has_feed bs ≡ true → before_feed (bs ++ piece) ≡ before_feed bs) → cond t [] (b ∷ before_feed (bs ++ piece)) ≡ cond t [] (b ∷ before_feed bs)
    by_test true h rest = refl
    by_test false h rest = ap (λ bytes. b ∷ bytes) (rest h)

pub before_feed-open : (since : List ℕ) → has_feed since ≡ false → before_feed since ≡ since
before_feed-open since h =
    ap before_feed (sym (append-nil since)) ∙ before_feed-append since [] h ∙ append-nil since

pub open-before_feed : (bytes : List ℕ) → has_feed (before_feed bytes) ≡ false
open-before_feed [] = refl
open-before_feed (b ∷ bs) = by_test (is_feed b) refl (open-before_feed bs)
  where
    by_test : (t : Bool) → is_feed b ≡ t → has_feed (before_feed bs) ≡ false → has_feed (cond t [] (b ∷ before_feed bs)) ≡ false
    by_test true e rest = refl
    by_test false e rest = rw e rest

-- the bytes taken are a front of the piece
pub take-take_through : (piece : List ℕ) → take (length (take_through 10 piece)) piece ≡ take_through 10 piece
take-take_through [] = refl
take-take_through (b ∷ bs) = by_test (is_feed b) (take-take_through bs)
  where
    by_test : (t : Bool) → take (length (take_through 10 bs)) bs ≡ take_through 10 bs → take (length (cond t (b ∷ []) (b ∷ take_through 10 bs))) (b ∷ bs) ≡ cond t (b ∷ []) (b ∷ take_through 10 bs)
    by_test true rest = refl
    by_test false rest = ap (λ bytes. b ∷ bytes) rest

-- without an LF they are the piece
pub take_through-open : (piece : List ℕ) → has_feed piece ≡ false → take_through 10 piece ≡ piece
take_through-open [] h = refl
take_through-open (b ∷ bs) h =
    let p = or_parts (is_feed b) (has_feed bs) h in rw p.0 (ap (λ bytes. b ∷ bytes) (take_through-open bs p.1))

-- with one, they are what stands before it, and the LF
pub take_through-feed : (piece : List ℕ) → has_feed piece ≡ true → take_through 10 piece ≡ before_feed piece ++ 10 ∷ []
take_through-feed [] h = absurd (false≢true h)
take_through-feed (b ∷ bs) h = by_test (is_feed b) refl h (take_through-feed bs)
  where
    by_test : (t : Bool) → is_feed b ≡ t → (t || has_feed bs) ≡ true → (has_feed bs ≡ true → take_through 10 bs ≡ before_feed bs ++ 10 ∷ []) → cond t (b ∷ []) (b ∷ take_through 10 bs) ≡ cond t [] (b ∷ before_feed bs) ++ 10 ∷ []
    by_test true e h rest = ap (λ byte. byte ∷ []) (eqb-true b 10 e)
    by_test false e h rest = ap (λ bytes. b ∷ bytes) (rest h)

-- the piece, cut behind its first LF
pub piece_parts : (piece : List ℕ) → has_feed piece ≡ true → piece ≡ before_feed piece ++ 10 ∷ drop (length (take_through 10 piece)) piece
piece_parts piece h =
    sym (take-append-drop (length (take_through 10 piece)) piece) ∙ ap (λ bytes. bytes ++ drop (length (take_through 10 piece)) piece) (take-take_through piece ∙ take_through-feed piece h) ∙ append_assoc (before_feed piece) (10 ∷ []) (drop (length (take_through 10 piece)) piece)

-- bytes past a cut don't come back
take_take-append : (n : ℕ) (front rest : List ℕ) → take n (take n front ++ rest) ≡ take n (front ++ rest)
take_take-append n front rest = elim (cases_lt n (length front)) [ inl h ↦ cut h | inr h ↦ rw (take_all n front h) refl ]
  where
    cut : n < length front → take n (take n front ++ rest) ≡ take n (front ++ rest)
    cut h =
        let fits : n ≤ length (take n front) = omega (arith, length-take-le n front (omega arith)) in
        take-append-le n (take n front) rest fits ∙ take-take n n front (omega arith) ∙ sym (take-append-le n front rest (omega arith))

-- what the bytes since the last line and a piece lead to
fed-append : (limit : ℕ) (since piece : List ℕ) → has_feed since ≡ false → record { limit = limit; text = take (limit + 2) (take (limit + 2) (before_feed since) ++ before_feed piece); is_whole = has_feed piece } ≡ fed limit (since ++ piece)
fed-append limit since piece h =
    rw (before_feed-open since h, take_take-append (limit + 2) since (before_feed piece), before_feed-append since piece h, has_feed-append since piece, h) refl

-- nothing that follows an LF changes what is held
fed-past : (limit : ℕ) (since piece : List ℕ) → has_feed since ≡ true → fed limit (since ++ piece) ≡ fed limit since
fed-past limit since piece e = rw (before_feed-past since piece e, has_feed-append since piece, e) refl

-- a piece goes on where the bytes since the last line ended
pub fed-more : (limit : ℕ) (since : List ℕ) (new : FeedState) (piece : List ℕ) (count : ℕ) → Feeds (fed limit since) new piece count → new ≡ fed limit (since ++ piece)
fed-more limit since new piece count f = elim (cases_Bool (has_feed since)) [
  | inl e ↦ (f.waits e).1 ∙ sym (fed-past limit since piece e)
  | inr e ↦ (f.takes e).1 ∙ fed-append limit since piece e
]

pub fed-pieces : (limit : ℕ) (since : List ℕ) (new : FeedState) (pieces : List (List ℕ)) → FeedsAll (fed limit since) new pieces → new ≡ fed limit (since ++ concat pieces)
fed-pieces limit since new [] f = f ∙ ap (fed limit) (sym (append-nil since))
fed-pieces limit since new (piece ∷ pieces) (middle, (count, f)) =
    let e = fed-more limit since middle piece count f.0 in
    let P : FeedState → Type 0 = λ state. FeedsAll state new pieces in
    fed-pieces limit (since ++ piece) new pieces (subst P e f.1) ∙ ap (fed limit) (append_assoc since piece (concat pieces))

-- what follows the first LF of a piece doesn't count
before_feed-take_through : (piece : List ℕ) → before_feed (take_through 10 piece) ≡ before_feed piece
before_feed-take_through piece = elim (cases_Bool (has_feed piece)) [
  | inl e ↦ ap before_feed (take_through-feed piece e) ∙ before_feed-feed (before_feed piece) [] (open-before_feed piece)
  | inr e ↦ ap before_feed (take_through-open piece e)
]

has_feed-take_through : (piece : List ℕ) → has_feed (take_through 10 piece) ≡ has_feed piece
has_feed-take_through piece = elim (cases_Bool (has_feed piece)) [
  | inl e ↦ ap has_feed (take_through-feed piece e) ∙ has_feed-append (before_feed piece) (10 ∷ []) ∙ ap (λ t. t || true) (open-before_feed piece) ∙ sym e
  | inr e ↦ ap has_feed (take_through-open piece e)
]

pub fed-taken : (limit : ℕ) (since : List ℕ) (new : FeedState) (piece : List ℕ) (count : ℕ) → Feeds (fed limit since) new piece count → new ≡ fed limit (since ++ take count piece)
fed-taken limit since new piece count f = elim (cases_Bool (has_feed since)) [
  | inl e ↦ (f.waits e).1 ∙ sym (fed-past limit since (take count piece) e)
  | inr e ↦ takes e
]
  where
    takes : has_feed since ≡ false → new ≡ fed limit (since ++ take count piece)
    takes e =
        let taken : take count piece ≡ take_through 10 piece = ap (λ n. take n piece) (f.takes e).0 ∙ take-take_through piece in
        let before : before_feed (take count piece) ≡ before_feed piece = ap before_feed taken ∙ before_feed-take_through piece in
        let has : has_feed (take count piece) ≡ has_feed piece = ap has_feed taken ∙ has_feed-take_through piece in
        (f.takes e).1 ∙ rw (← before, ← has) refl ∙ fed-append limit since (take count piece) e

-- where an LF came in a call it's in the piece
pub whole-has_feed : (limit : ℕ) (since : List ℕ) (new : FeedState) (piece : List ℕ) (count : ℕ) → has_feed since ≡ false → Feeds (fed limit since) new piece count → new.is_whole ≡ has_feed piece
whole-has_feed limit since new piece count e f = ap (λ (state : FeedState). state.is_whole) (f.takes e).1

pub lines_of-fed : (limit : ℕ) (since : List ℕ) (new : FeedState) (piece : List ℕ) (count : ℕ) (rest : List ℕ) → has_feed since ≡ false → Feeds (fed limit since) new piece count → new.is_whole ≡ true → lines_of (since ++ piece ++ rest) ≡ without_return (since ++ before_feed piece) ∷ lines_of (drop count piece ++ rest)
lines_of-fed limit since new piece count rest e f whole =
    let has : has_feed piece ≡ true = sym (whole-has_feed limit since new piece count e f) ∙ whole in
    let left = drop count piece in
    let parts : piece ≡ before_feed piece ++ 10 ∷ left = piece_parts piece has ∙ ap (λ n. before_feed piece ++ 10 ∷ drop n piece) (sym (f.takes e).0) in
    let cut : since ++ piece ++ rest ≡ (since ++ before_feed piece) ++ 10 ∷ (left ++ rest) = ap (λ bytes. since ++ bytes ++ rest) parts ∙ ap (λ bytes. bytes ++ rest) (sym (append_assoc since (before_feed piece) (10 ∷ left))) ∙ append_assoc (since ++ before_feed piece) (10 ∷ left) rest in
    ap lines_of cut ∙ lines_of-feed (since ++ before_feed piece) (left ++ rest) (open-append since (before_feed piece) e (open-before_feed piece))

pub fed-goes_on : (limit : ℕ) (since : List ℕ) (new : FeedState) (piece : List ℕ) (count : ℕ) → has_feed since ≡ false → Feeds (fed limit since) new piece count → new.is_whole ≡ false → (count ≡ length piece) × (has_feed (since ++ piece) ≡ false) × (new ≡ fed limit (since ++ piece))
fed-goes_on limit since new piece count e f whole =
    let has : has_feed piece ≡ false = sym (whole-has_feed limit since new piece count e f) ∙ whole in
    ((f.takes e).0 ∙ ap length (take_through-open piece has), open-append since piece e has, fed-more limit since new piece count f)

-- at most one byte is taken off
pub length-without_return : (bytes : List ℕ) → (length (without_return bytes) ≤ length bytes) × (length bytes ≤ length (without_return bytes) + 1)
length-without_return bytes = elim (return_or_none bytes) [
  | inl e ↦ (omega (arith, ap length e, length-append (without_return bytes) (13 ∷ [])), omega (arith, ap length e, length-append (without_return bytes) (13 ∷ [])))
  | inr e ↦ (omega (arith, ap length e), omega (arith, ap length e))
]

-- what passes the limit shows as any other line that does
ShowsLine-past : (limit : ℕ) (line other : List ℕ) (shown : Next) → limit < length line → limit < length other → ShowsLine limit line shown → ShowsLine limit other shown
ShowsLine-past limit line other (Line bytes) past over shows = absurd (omega (arith, shows.1))
ShowsLine-past limit line other More past over shows = shows
ShowsLine-past limit line other TooLong past over shows = over

-- two bytes past the limit are enough to tell
pub ShowsLine-cut : (limit : ℕ) (line : List ℕ) (shown : Next) → ShowsLine limit (without_return (take (limit + 2) line)) shown → ShowsLine limit (without_return line) shown
ShowsLine-cut limit line shown shows = elim (cases_lt (limit + 2) (length line)) [
  | inl h ↦ ShowsLine-past limit (without_return (take (limit + 2) line)) (without_return line) shown (omega (arith, length-take-le (limit + 2) line (omega arith), length-without_return (take (limit + 2) line))) (omega (arith, length-without_return line)) shows
  | inr h ↦ rw (take_all (limit + 2) line h) at shows
]

ShowsLine-cut_whole : (limit : ℕ) (line : List ℕ) (shown : Next) → ShowsLine limit (take (limit + 2) line) shown → ShowsLine limit line shown
ShowsLine-cut_whole limit line shown shows = elim (cases_lt (limit + 2) (length line)) [
  | inl h ↦ ShowsLine-past limit (take (limit + 2) line) line shown (omega (arith, length-take-le (limit + 2) line (omega arith))) (omega arith) shows
  | inr h ↦ rw (take_all (limit + 2) line h) at shows
]

pub fed-shows : (limit : ℕ) (since : List ℕ) (new : FeedState) (piece : List ℕ) (count : ℕ) (shown : Next) → has_feed since ≡ false → Feeds (fed limit since) new piece count → new.is_whole ≡ true → ShowsNext new shown → ShowsLine limit (without_return (since ++ before_feed piece)) shown
fed-shows limit since new piece count shown e f whole shows =
    let is = fed-more limit since new piece count f in
    let line = MatchBool-at_true (ShowsLine new.limit (without_return new.text) shown) (shown ≡ More) whole shows in
    let P : FeedState → Type 0 = λ state. ShowsLine state.limit (without_return state.text) shown in
    let Q : List ℕ → Type 0 = λ bytes. ShowsLine limit (without_return bytes) shown in
    subst Q (before_feed-append since piece e) (ShowsLine-cut limit (before_feed (since ++ piece)) shown (subst P is line))

pub fed-shows_last : (limit : ℕ) (since : List ℕ) (shown : Next) → has_feed since ≡ false → 0 < length since → ShowsLast (fed limit since) shown → ShowsLine limit since shown
fed-shows_last limit since shown e some shows =
    let kept = take (limit + 2) (before_feed since) in
    let is : kept ≡ take (limit + 2) since = ap (take (limit + 2)) (before_feed-open since e) in
    let few : length kept ≡ 0 → ⊥ = λ none. omega (arith, ap length is, length-take (limit + 2) since) in
    let line = MatchBool-at_false (shown ≡ More) (ShowsLine limit kept shown) (or_from (has_feed since) (eqb (length kept) 0) e (ne_eqb (length kept) 0 few)) shows in
    let P : List ℕ → Type 0 = λ bytes. ShowsLine limit bytes shown in
    ShowsLine-cut_whole limit since shown (subst P is line)

-- a longer line with one CR taken off is no shorter
without_return-append : (bytes more : List ℕ) → length (without_return bytes) ≤ length (without_return (bytes ++ more))
without_return-append bytes [] = omega (arith, ap (λ all. length (without_return all)) (append-nil bytes))
without_return-append bytes (b ∷ bs) =
    omega (arith, length-without_return bytes, length-without_return (bytes ++ b ∷ bs), length-append bytes (b ∷ bs))

-- the cut leaves what tells whether the line passes the limit
past_cut : (limit : ℕ) (line : List ℕ) → limit < length (without_return (take (limit + 2) line)) ↔ limit < length (without_return line)
past_cut limit line = elim (cases_lt (limit + 2) (length line)) [
  | inl h ↦ (λ _. omega (arith, length-without_return line), λ _. omega (arith, length-take-le (limit + 2) line (omega arith), length-without_return (take (limit + 2) line)))
  | inr h ↦ rw (take_all (limit + 2) line h) (λ p. p, λ p. p)
]

pub over_stays : (limit : ℕ) (since : List ℕ) → has_feed since ≡ false → (IsOver (fed limit since) ↔ ((more : List ℕ) → limit < length (without_return (since ++ more))))
over_stays limit since e =
    rw (before_feed-open since e) (
      λ over more. omega (arith, (past_cut limit since).0 over.1, without_return-append since more),
      λ always. (e, (past_cut limit since).1 (omega (arith, always [], ap (λ all. length (without_return all)) (append-nil since)))),
    )

-- the place of the LF, or the length where there is none
pub before_feed-is : (piece : List ℕ) → before_feed piece ≡ take (position_or_len is_feed piece) piece
before_feed-is [] = refl
before_feed-is (b ∷ bs) = by_test (is_feed b) (before_feed-is bs)
  where
    by_test : (t : Bool) → before_feed bs ≡ take (position_or_len is_feed bs) bs → cond t [] (b ∷ before_feed bs) ≡ take (cond (not t) (1 + position_or_len is_feed bs) 0) (b ∷ bs)
    by_test true rest = refl
    by_test false rest = rw (one-add (position_or_len is_feed bs)) (ap (λ bytes. b ∷ bytes) rest)

place-open : (piece : List ℕ) → position_or_len is_feed piece ≡ length piece → has_feed piece ≡ false
place-open [] e = refl
place-open (b ∷ bs) e = by_test (is_feed b) e (place-open bs)
  where
    by_test : (t : Bool) → cond (not t) (1 + position_or_len is_feed bs) 0 ≡ length (b ∷ bs) → (position_or_len is_feed bs ≡ length bs → has_feed bs ≡ false) → (t || has_feed bs) ≡ false
    by_test true e rest = absurd (omega arith)
    by_test false e rest = rest (omega arith)

open-place : (piece : List ℕ) → has_feed piece ≡ false → position_or_len is_feed piece ≡ length piece
open-place [] h = refl
open-place (b ∷ bs) h =
    let p = or_parts (is_feed b) (has_feed bs) h in rw p.0 (omega (arith, open-place bs p.1))

-- what `feed` does, told by the place of the LF
pub Feeds-place : (old new : FeedState) (piece : List ℕ) (count place : ℕ) (is_whole : Bool) → old.is_whole ≡ false → place ≡ position_or_len is_feed piece → new ≡ record { limit = old.limit; text = take (old.limit + 2) (old.text ++ take place piece); is_whole = is_whole } → is_whole ≡ has_feed piece → count ≡ length (take_through 10 piece) → Feeds old new piece count
Feeds-place old new piece count place is_whole still at is has taken = record {
  waits = λ whole. absurd (false≢true (sym still ∙ whole));
  takes = λ _. (taken, is ∙ rw (has, at, before_feed-is piece) refl);
}

-- no LF: the whole piece is taken
pub Feeds-all : (old new : FeedState) (piece : List ℕ) (place : ℕ) → old.is_whole ≡ false → place ≡ position_or_len is_feed piece → place ≡ length piece → new ≡ record old { text = take (old.limit + 2) (old.text ++ take place piece) } → Feeds old new piece place
Feeds-all old new piece place still at all is =
    let none : has_feed piece ≡ false = place-open piece (sym at ∙ all) in
    Feeds-place old new piece place place old.is_whole still at is (still ∙ sym none) (all ∙ sym (ap length (take_through-open piece none)))

-- an LF: it's taken too
pub Feeds-whole : (old new : FeedState) (piece : List ℕ) (place : ℕ) → old.is_whole ≡ false → place ≡ position_or_len is_feed piece → (place ≡ length piece → ⊥) → new ≡ record { limit = old.limit; text = take (old.limit + 2) (old.text ++ take place piece); is_whole = true } → Feeds old new piece (place + 1)
Feeds-whole old new piece place still at some is = elim (cases_Bool (has_feed piece)) [
  | inl has ↦ Feeds-place old new piece (place + 1) place true still at is (sym has) (omega (arith, at, ap length (take_through-feed piece has), length-append (before_feed piece) (10 ∷ []), ap length (before_feed-is piece), length-take-le (position_or_len is_feed piece) piece (place-within is_feed piece)))
  | inr none ↦ absurd (some (at ∙ open-place piece none))
]

-- bytes are kept as far as there is room
pub kept_is : (n : ℕ) (text bytes : List ℕ) → length text ≤ n → text ++ take (min (n - length text) (length bytes)) bytes ≡ take n (text ++ bytes)
kept_is n text bytes fits =
    let room : length text + (n - length text) ≡ n = omega arith in
    ap (λ front. text ++ front) (take_min (n - length text) bytes) ∙ sym (take-append-add text bytes (n - length text)) ∙ ap (λ m. take m (text ++ bytes)) room

pub open-take : (n : ℕ) (bytes : List ℕ) → has_feed bytes ≡ false → has_feed (take n bytes) ≡ false
open-take n bytes h =
    (or_parts (has_feed (take n bytes)) (has_feed (drop n bytes)) (sym (has_feed-append (take n bytes) (drop n bytes)) ∙ ap has_feed (take-append-drop n bytes) ∙ h)).0
