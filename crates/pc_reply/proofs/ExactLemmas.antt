-- A reply feed tells one thing of the bytes, and takes no byte past a reply.
use Rattle.std.proofs.Common.{◌≡◌, ℕ, ◌+◌, ◌<◌, ◌≤◌, Bool, true, false, ◌||◌, ◌⊎◌, inl, inr, Ok, Err, Result, List, [], ◌∷◌, ◌++◌, length, take, drop, refl, sym, ap, subst, ◌∙◌, arith, append_assoc, append-nil, length-append}
use Rattle.std.specs.Io.BufRead.{take_through}
use Rattle.std.proofs.lemmas.Bool.{false≢true, cases_Bool}
use Rattle.std.proofs.lemmas.List.{append_cancel_left}
use Rattle.pc_base.specs.declared.failure.Memory.{Memory}
use Rattle.pc_wire.specs.Lines.{has_feed, before_feed, without_return, IsSpelling, AreSpellings}
use Rattle.pc_wire.specs.LineFeed.{FeedState, fed, Feeds}
use Rattle.pc_wire.proofs.LineLemmas.{spelled, spellings_differ, has_feed-append, open-append, before_feed-feed}
use Rattle.pc_wire.proofs.FeedLemmas.{before_feed-append, before_feed-past, open-before_feed, piece_parts, take-take_through, take_through-open, take_through-feed, fed-taken}
use Rattle.pc_reply.specs.declared.reply.Reply.{Reply}
use Rattle.pc_reply.specs.declared.reply_feed.ReplyNext.{ReplyNext}
use Rattle.pc_reply.specs.declared.reply_feed.ReplyNext.TheVariants.{Whole, More, Bad}
use Rattle.pc_reply.specs.Reply.{IsReply}
use Rattle.pc_reply.specs.ReplyFeed.{ReplyState, begun}
use Rattle.pc_reply.specs.Told.{limit_behind, BeginsReply, GoesOn, IsOneLine, FitsNone, IsTold, HasCome, Tells}
use Rattle.pc_reply.proofs.SpellLemmas.{peel, replies_differ}
use Rattle.pc_reply.proofs.ToldLemmas.{begins}

-- bytes without LF spell no line
no_lines : (part : List ℕ) (lines : List (List ℕ)) → has_feed part ≡ false → AreSpellings part lines → part ≡ []
no_lines part [] unended are = are
no_lines part (line ∷ lines) unended (spelling, (others, are)) =
    let s = spelled spelling line are.1 in
    let text : part ≡ s.0 ++ 10 ∷ others = are.0 ∙ ap (λ bytes. bytes ++ others) s.2 ∙ append_assoc s.0 (10 ∷ []) others in
    let has : has_feed part ≡ true = ap has_feed text ∙ has_feed-append s.0 (10 ∷ others) ∙ ap (λ b. b || true) s.1 in
    absurd (false≢true (sym unended ∙ has))

-- whole lines with which a reply begins and goes on, and a line that hasn't ended, are no reply
begun_no_reply : (reply : Reply) (bytes whole part : List ℕ) → bytes ≡ whole ++ part → has_feed part ≡ false → BeginsReply whole → IsReply reply bytes → ⊥
begun_no_reply reply bytes whole part split unended begins (lines, (are, sent)) =
    let P : List ℕ → Type 0 = λ bytes. AreSpellings bytes lines in
    let found = peel whole part begins.lines lines begins.spelled (subst P split are) in
    let none : part ≡ [] = no_lines part found.0 unended found.1.1 in
    let same : bytes ≡ whole = split ∙ ap (λ part. whole ++ part) none ∙ append-nil whole in
    let Q : List ℕ → Type 0 = λ bytes. IsReply reply bytes in
    let equal = replies_differ reply begins.reply whole (whole ++ begins.rest) begins.rest [] (subst Q same (lines, (are, sent))) begins.is (sym (append-nil (whole ++ begins.rest))) in
    omega (arith, ap length equal.0, length-append whole begins.rest, begins.goes_on)

-- bytes of which a reply goes on are none
pub goes_on_no_reply : (reply : Reply) (bytes : List ℕ) → GoesOn bytes → IsReply reply bytes → ⊥
goes_on_no_reply reply bytes on is =
    begun_no_reply reply bytes on.whole on.part on.split on.unended on.begins is

-- where a reply is whole, its last line waits
reply_waits : (state : ReplyState) (reply : Reply) (bytes : List ℕ) → HasCome state bytes → IsReply reply bytes → state.line.is_whole ≡ true
reply_waits state reply bytes come is = elim (cases_Bool (has_feed come.part)) [
  | inl e ↦ ap (λ (line : FeedState). line.is_whole) come.line ∙ e
  | inr e ↦ absurd (begun_no_reply reply bytes come.whole come.part come.split e (begins state.progress come.lines come.whole come.makes come.spelled) is)
]

-- while a reply waits, nothing is taken
pub nothing_taken : (old new : ReplyState) (reply : Reply) (bytes piece : List ℕ) (count : ℕ) → HasCome old bytes → IsReply reply bytes → Feeds old.line new.line piece count → (count ≡ 0) × (new.line ≡ old.line)
nothing_taken old new reply bytes piece count come is feeds =
    feeds.waits (reply_waits old reply bytes come is)

-- bytes with which no reply begins are none
fits_none_no_reply : (reply : Reply) (bytes : List ℕ) (place : ℕ) → FitsNone bytes place → IsReply reply bytes → ⊥
fits_none_no_reply reply bytes place fits is =
    fits.none reply [] (subst (λ (bytes : List ℕ). IsReply reply bytes) (sym (append-nil bytes)) is)

-- nothing came
pub begun_comes : HasCome begun []
begun_comes = record { lines = []; whole = []; part = []; split = refl; spelled = refl; makes = refl; place = refl; line = refl; one = inl refl }

-- more bytes of the line that comes
one_line_more : (limit : ℕ) (part piece : List ℕ) (new : FeedState) (count : ℕ) → IsOneLine part → Feeds (fed limit part) new piece count → IsOneLine (part ++ take count piece)
one_line_more limit part piece new count one feeds = elim (cases_Bool (has_feed part)) [
  | inl ended ↦ subst IsOneLine (sym (ap (λ n. part ++ take n piece) (feeds.waits ended).0 ∙ append-nil part)) one
  | inr unended ↦ subst IsOneLine (sym (ap (λ taken. part ++ taken) (ap (λ n. take n piece) (feeds.takes unended).0 ∙ take-take_through piece))) (through unended)
]
  where
    ended_here : has_feed part ≡ false → has_feed piece ≡ true → part ++ take_through 10 piece ≡ before_feed (part ++ take_through 10 piece) ++ 10 ∷ []
    ended_here unended ended =
        let taken : part ++ take_through 10 piece ≡ (part ++ before_feed piece) ++ 10 ∷ [] = ap (λ more. part ++ more) (take_through-feed piece ended) ∙ sym (append_assoc part (before_feed piece) (10 ∷ [])) in
        let front : before_feed (part ++ take_through 10 piece) ≡ part ++ before_feed piece = ap before_feed taken ∙ before_feed-feed (part ++ before_feed piece) [] (open-append part (before_feed piece) unended (open-before_feed piece)) in
        taken ∙ ap (λ bytes. bytes ++ 10 ∷ []) (sym front)

    through : has_feed part ≡ false → IsOneLine (part ++ take_through 10 piece)
    through unended = elim (cases_Bool (has_feed piece)) [
      | inl ended ↦ inr (ended_here unended ended)
      | inr open_ ↦ inl (ap (λ taken. has_feed (part ++ taken)) (take_through-open piece open_) ∙ open-append part piece unended open_)
    ]

pub piece_comes : (old new : ReplyState) (bytes piece : List ℕ) (count : ℕ) → HasCome old bytes → Feeds old.line new.line piece count → new ≡ record old { line = new.line } → HasCome new (bytes ++ take count piece)
piece_comes old new bytes piece count come feeds others =
    let limit = limit_behind come.whole in
    let F : FeedState → Type 0 = λ line. Feeds line new.line piece count in
    let from : Feeds (fed limit come.part) new.line piece count = subst F come.line feeds in
    let still : HasCome (record old { line = new.line }) (bytes ++ take count piece) = record {
      lines = come.lines;
      whole = come.whole;
      part = come.part ++ take count piece;
      split = ap (λ front. front ++ take count piece) come.split ∙ append_assoc come.whole come.part (take count piece);
      spelled = come.spelled;
      makes = come.makes;
      place = come.place;
      line = fed-taken limit come.part new.line piece count from;
      one = one_line_more limit come.part piece new.line count come.one from;
    } in
    subst (λ (state : ReplyState). HasCome state (bytes ++ take count piece)) (sym others) still

-- what stands at the end of spelled lines is an LF
ends_in_feed : (bytes : List ℕ) (lines : List (List ℕ)) → AreSpellings bytes lines → 0 < length bytes → (front : List ℕ) × (bytes ≡ front ++ 10 ∷ [])
ends_in_feed bytes [] are some = absurd (omega (arith, ap length are))
ends_in_feed bytes (line ∷ lines) (spelling, (others, are)) some =
    by_rest others are.0 (λ more. ends_in_feed others lines are.2 more)
  where
    by_rest : (others : List ℕ) → bytes ≡ spelling ++ others → (0 < length others → (front : List ℕ) × (others ≡ front ++ 10 ∷ [])) → (front : List ℕ) × (bytes ≡ front ++ 10 ∷ [])
    by_rest [] is more =
        let s = spelled spelling line are.1 in (s.0, is ∙ append-nil spelling ∙ s.2)
    by_rest (b ∷ bs) is more =
        let rest = more (omega arith) in
        (spelling ++ rest.0, is ∙ ap (λ more. spelling ++ more) rest.1 ∙ sym (append_assoc spelling rest.0 (10 ∷ [])))

-- an end of bytes that end in LF has it
has_the_end : (bytes left front : List ℕ) → 0 < length left → bytes ++ left ≡ front ++ 10 ∷ [] → has_feed left ≡ true
has_the_end [] left front some is =
    ap has_feed is ∙ has_feed-append front (10 ∷ []) ∙ or_true (has_feed front)
  where
    or_true : (b : Bool) → (b || true) ≡ true
    or_true true = refl
    or_true false = refl
has_the_end (b ∷ bs) left [] some is =
    absurd (omega (arith, ap length is, length-append bs left, some))
has_the_end (b ∷ bs) left (c ∷ cs) some is =
    let same : b ∷ (bs ++ left) ≡ c ∷ (cs ++ 10 ∷ []) = is in
    let tails : bs ++ left ≡ cs ++ 10 ∷ [] = cc in
    has_the_end bs left cs some tails

-- a piece that goes on as a text with an LF is taken at most up to that
taken_within : (piece beyond left other : List ℕ) → has_feed left ≡ true → piece ++ beyond ≡ left ++ other → length (take_through 10 piece) ≤ length left
taken_within piece beyond left other ended same = elim (cases_Bool (has_feed piece)) [
  | inl e ↦ omega (arith, front, ap length (take_through-feed piece e), length-append (before_feed piece) (10 ∷ []), ap length (sym (before_feed-past piece beyond e) ∙ before))
  | inr e ↦ omega (arith, front, ap length (take_through-open piece e), ap length (sym (before_feed-append piece beyond e) ∙ before), length-append piece (before_feed beyond))
]
  where
    before : before_feed (piece ++ beyond) ≡ before_feed left
    before = ap before_feed same ∙ before_feed-past left other ended

    front : length (before_feed left) + 1 ≤ length left
    front = omega (arith, ap length (piece_parts left ended), length-append (before_feed left) (10 ∷ drop (length (take_through 10 left)) left))

-- no byte past a reply is taken
pub takes_just : (old new : ReplyState) (reply : Reply) (bytes left piece beyond other : List ℕ) (count : ℕ) → HasCome old bytes → IsReply reply (bytes ++ left) → piece ++ beyond ≡ left ++ other → Feeds old.line new.line piece count → count ≤ length left
takes_just old new reply bytes [] piece beyond other count come is same feeds =
    omega (arith, (nothing_taken old new reply bytes piece count come (subst (λ (bytes : List ℕ). IsReply reply bytes) (append-nil bytes) is) feeds).0)
takes_just old new reply bytes (b ∷ bs) piece beyond other count come (lines, (are, sent)) same feeds = elim (cases_Bool old.line.is_whole) [
  | inl e ↦ omega (arith, (feeds.waits e).0)
  | inr e ↦ omega (arith, (feeds.takes e).0, within)
]
  where
    within : length (take_through 10 piece) ≤ length (b ∷ bs)
    within =
        let end = ends_in_feed (bytes ++ b ∷ bs) lines are (omega (arith, length-append bytes (b ∷ bs))) in
        taken_within piece beyond (b ∷ bs) other (has_the_end bytes (b ∷ bs) end.0 (omega arith) end.1) same

-- a text that begins with a spelling has an LF
has_line : (text spelling line rest : List ℕ) → IsSpelling spelling line → text ≡ spelling ++ rest → has_feed text ≡ true
has_line text spelling line rest spells is =
    let s = spelled spelling line spells in
    ap has_feed (is ∙ ap (λ bytes. bytes ++ rest) s.2 ∙ append_assoc s.0 (10 ∷ []) rest) ∙ has_feed-append s.0 (10 ∷ rest) ∙ ap (λ b. b || true) s.1

-- whole lines and a line that hasn't ended are cut in one way
same_split : (whole part : List ℕ) (lines : List (List ℕ)) (front rest : List ℕ) (others : List (List ℕ)) → AreSpellings whole lines → AreSpellings front others → has_feed part ≡ false → has_feed rest ≡ false → whole ++ part ≡ front ++ rest → (whole ≡ front) × (part ≡ rest)
same_split whole part [] front rest [] are also open_ unended e =
    (are ∙ sym also, sym (ap (λ bytes. bytes ++ part) are) ∙ e ∙ ap (λ bytes. bytes ++ rest) also)
same_split whole part [] front rest (line ∷ others) are (spelling, (more, also)) open_ unended e =
    let found = has_line part spelling line (more ++ rest) also.1 (sym (ap (λ bytes. bytes ++ part) are) ∙ e ∙ ap (λ bytes. bytes ++ rest) also.0 ∙ append_assoc spelling more rest) in
    absurd (false≢true (sym open_ ∙ found))
same_split whole part (line ∷ lines) front rest [] (spelling, (more, are)) also open_ unended e =
    let found = has_line rest spelling line (more ++ part) are.1 (sym (ap (λ bytes. bytes ++ rest) also) ∙ sym e ∙ ap (λ bytes. bytes ++ part) are.0 ∙ append_assoc spelling more part) in
    absurd (false≢true (sym unended ∙ found))
same_split whole part (line ∷ lines) front rest (first ∷ others) (spelling, (more, are)) (another, (after, also)) open_ unended e =
    let joined : spelling ++ (more ++ part) ≡ another ++ (after ++ rest) = sym (append_assoc spelling more part) ∙ ap (λ bytes. bytes ++ part) (sym are.0) ∙ e ∙ ap (λ bytes. bytes ++ rest) also.0 ∙ append_assoc another after rest in
    let same = spellings_differ spelling another (more ++ part) (after ++ rest) line first are.1 also.1 joined in
    let tails : more ++ part ≡ after ++ rest = append_cancel_left spelling (more ++ part) (after ++ rest) (joined ∙ ap (λ bytes. bytes ++ (after ++ rest)) (sym same.0)) in
    let both = same_split more part lines after rest others are.2 also.2 open_ unended tails in
    (are.0 ∙ ap (λ bytes. bytes ++ more) same.0 ∙ ap (λ bytes. another ++ bytes) both.0 ∙ sym also.0, both.1)

-- bytes that end in LF and go on with a line that hasn't ended go on with nothing
nothing_begun : (whole part front : List ℕ) → has_feed part ≡ false → whole ++ part ≡ front ++ 10 ∷ [] → part ≡ []
nothing_begun whole [] front unended e = refl
nothing_begun whole (b ∷ bs) front unended e =
    absurd (false≢true (sym unended ∙ has_the_end whole (b ∷ bs) front (omega arith) e))

-- a line that has ended
ended_line : (whole part : List ℕ) → IsOneLine part → has_feed part ≡ true → whole ++ part ≡ (whole ++ before_feed part) ++ 10 ∷ []
ended_line whole part (inl unended) ended = absurd (false≢true (sym unended ∙ ended))
ended_line whole part (inr is) ended =
    ap (λ bytes. whole ++ bytes) is ∙ sym (append_assoc whole (before_feed part) (10 ∷ []))

-- bytes of which a reply goes on aren't such that none begins with them
goes_on_fits_some : (bytes : List ℕ) (place : ℕ) → GoesOn bytes → FitsNone bytes place → ⊥
goes_on_fits_some bytes place on fits = elim (cases_Bool (has_feed fits.part)) [
  | inl e ↦ ended e
  | inr e ↦ unended_ e
]
  where
    ended : has_feed fits.part ≡ true → ⊥
    ended e =
        let none : on.part ≡ [] = nothing_begun on.whole on.part (fits.whole ++ before_feed fits.part) on.unended (sym on.split ∙ fits.split ∙ ended_line fits.whole fits.part fits.line e) in
        let same : bytes ≡ on.whole = on.split ∙ ap (λ part. on.whole ++ part) none ∙ append-nil on.whole in
        let P : List ℕ → Type 0 = λ bytes. IsReply on.begins.reply (bytes ++ on.begins.rest) in
        fits.none on.begins.reply on.begins.rest (subst P (sym same) on.begins.is)

    unended_ : has_feed fits.part ≡ false → ⊥
    unended_ e =
        let same = same_split on.whole on.part on.begins.lines fits.whole fits.part fits.begins.lines on.begins.spelled fits.begins.spelled on.unended e (sym on.split ∙ fits.split) in
        elim fits.over [
          | inl ended_ ↦ false≢true (sym e ∙ ended_)
          | inr past ↦ omega (arith, past, on.short, ap limit_behind same.0, ap (λ bytes. length (without_return bytes)) same.1)
        ]

-- the last byte is the same and the others
same_front : (xs ys : List ℕ) → xs ++ 10 ∷ [] ≡ ys ++ 10 ∷ [] → xs ≡ ys
same_front [] [] e = refl
same_front [] (y ∷ ys) e = absurd (omega (arith, ap length e, length-append ys (10 ∷ [])))
same_front (x ∷ xs) [] e = absurd (omega (arith, ap length e, length-append xs (10 ∷ [])))
same_front (x ∷ xs) (y ∷ ys) e =
    let same : x ∷ (xs ++ 10 ∷ []) ≡ y ∷ (ys ++ 10 ∷ []) = e in
    let one : x ≡ y = cc in
    let tails : xs ++ 10 ∷ [] ≡ ys ++ 10 ∷ [] = cc in
    ap (λ z. z ∷ xs) one ∙ ap (λ zs. y ∷ zs) (same_front xs ys tails)

-- a line past its limit isn't empty
not_empty : (part : List ℕ) (limit : ℕ) → ((has_feed part ≡ true) ⊎ (limit < length (without_return part))) → part ≡ [] → ⊥
not_empty part limit (inl ended) none = false≢true (sym (ap has_feed none) ∙ ended)
not_empty part limit (inr past) none = omega (arith, past, ap (λ bytes. length (without_return bytes)) none)

-- the line that fits none begins at one place
one_place : (bytes : List ℕ) (place other : ℕ) → FitsNone bytes place → FitsNone bytes other → place ≡ other
one_place bytes place other fits also = elim (cases_Bool (has_feed fits.part)) [
  | inl e ↦ elim (cases_Bool (has_feed also.part)) [ inl k ↦ both_ended e k | inr k ↦ absurd (one_ended fits also e k) ]
  | inr e ↦ elim (cases_Bool (has_feed also.part)) [ inl k ↦ absurd (one_ended also fits k e) | inr k ↦ both_open e k ]
]
  where
    one_ended : {p q : ℕ} (one : FitsNone bytes p) (two : FitsNone bytes q) → has_feed one.part ≡ true → has_feed two.part ≡ false → ⊥
    one_ended one two e k =
        not_empty two.part (limit_behind two.whole) two.over (nothing_begun two.whole two.part (one.whole ++ before_feed one.part) k (sym two.split ∙ one.split ∙ ended_line one.whole one.part one.line e))

    both_open : has_feed fits.part ≡ false → has_feed also.part ≡ false → place ≡ other
    both_open e k =
        let same = same_split fits.whole fits.part fits.begins.lines also.whole also.part also.begins.lines fits.begins.spelled also.begins.spelled e k (sym fits.split ∙ also.split) in
        fits.at ∙ ap length same.0 ∙ sym also.at

    both_ended : has_feed fits.part ≡ true → has_feed also.part ≡ true → place ≡ other
    both_ended e k =
        let fronts = same_front (fits.whole ++ before_feed fits.part) (also.whole ++ before_feed also.part) (sym (ended_line fits.whole fits.part fits.line e) ∙ sym fits.split ∙ also.split ∙ ended_line also.whole also.part also.line k) in
        let same = same_split fits.whole (before_feed fits.part) fits.begins.lines also.whole (before_feed also.part) also.begins.lines fits.begins.spelled also.begins.spelled (open-before_feed fits.part) (open-before_feed also.part) fronts in
        fits.at ∙ ap length same.0 ∙ sym also.at

-- of the bytes one thing is true that can be told
pub one_is_told : (bytes : List ℕ) (one other : ReplyNext) → IsTold bytes one → IsTold bytes other → one ≡ other
one_is_told bytes (Whole reply) (Whole other) is also =
    ap Whole (replies_differ reply other bytes bytes [] [] is also refl).1
one_is_told bytes (Whole reply) More is also = absurd (goes_on_no_reply reply bytes also is)
one_is_told bytes (Whole reply) (Bad place) is also = absurd (fits_none_no_reply reply bytes place also is)
one_is_told bytes More (Whole reply) is also = absurd (goes_on_no_reply reply bytes is also)
one_is_told bytes More More is also = refl
one_is_told bytes More (Bad place) is also = absurd (goes_on_fits_some bytes place is also)
one_is_told bytes (Bad place) (Whole reply) is also = absurd (fits_none_no_reply reply bytes place is also)
one_is_told bytes (Bad place) More is also = absurd (goes_on_fits_some bytes place also is)
one_is_told bytes (Bad place) (Bad other) is also = ap Bad (one_place bytes place other is also)

-- what is true of the bytes is told, unless memory was wanted
pub true_is_told : (bytes : List ℕ) (next : ReplyNext) (new : ReplyState) (result : Result ReplyNext Memory) → IsTold bytes next → Tells bytes new result → (result ≡ Ok next) ⊎ (result ≡ Err (record {}))
true_is_told bytes next new (Ok (Whole reply)) is told = inl (ap Ok (one_is_told bytes (Whole reply) next told.0 is))
true_is_told bytes next new (Ok More) is told = inl (ap Ok (one_is_told bytes More next told.0 is))
true_is_told bytes next new (Ok (Bad place)) is told = inl (ap Ok (one_is_told bytes (Bad place) next told.0 is))
true_is_told bytes next new (Err memory) is told = inr refl
