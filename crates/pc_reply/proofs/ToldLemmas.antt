-- What a reply feed tells is true of the bytes that came.
use Rattle.std.proofs.Common.{◌≡◌, ℕ, ◌+◌, ◌<◌, ◌≤◌, ◌==◌, Bool, true, false, cond, inl, inr, nat_lt, nat_le, Ok, Err, Result, List, [], ◌∷◌, ◌++◌, length, take, refl, sym, ap, subst, ◌∙◌, arith, append_assoc, append-nil, length-append}
use Rattle.std.specs.Prelude.{MatchBool}
use Rattle.std.proofs.lemmas.Bool.{false≢true, cases_Bool, cases_lt}
use Rattle.std.proofs.lemmas.Bool.Decides.{nat_tests}
use Rattle.std.proofs.lemmas.List.{take_all, nil_from_length}
use Rattle.pc_base.specs.declared.failure.Memory.{Memory}
use Rattle.pc_wire.specs.Lines.{has_feed, before_feed, without_return, IsSpelling, AreSpellings}
use Rattle.pc_wire.specs.LineFeed.{FeedState, fed}
use Rattle.pc_wire.specs.BodyFeed.{content_of}
use Rattle.pc_wire.proofs.LineLemmas.{spelled, IsSpelling-front, before_feed-feed}
use Rattle.pc_wire.proofs.FeedLemmas.{before_feed-append, before_feed-past, before_feed-open, open-before_feed, length-without_return}
use Rattle.pc_reply.proofs.CutLemmas.{without_return-append, past_cut}
use Rattle.pc_reply.specs.declared.head.Head.{Head}
use Rattle.pc_reply.specs.declared.reply.Reply.{Reply}
use Rattle.pc_reply.specs.declared.reply_feed.ReplyNext.{ReplyNext}
use Rattle.pc_reply.specs.declared.reply_feed.ReplyNext.TheVariants.{Whole, More, Bad}
use Rattle.pc_reply.specs.Reply.{IsReply, IsSentAs}
use Rattle.pc_reply.specs.ReplyFeed.{Progress, no_line, listing, stopped, wanting, ReplyState, moved, TakesHead, TakesItem, TakesWhole, is_past, Stops, TakesNext, Nexts}
use Rattle.pc_reply.specs.Told.{limit_behind, BeginsReply, GoesOn, IsOneLine, FitsNone, Makes, HasCome, Tells}
use Rattle.pc_reply.proofs.SentLemmas.{none_too_much, none_too_long, none_long_head, none_no_head, ends_with, head_ends, dot_ends, carry_push, list_all-push}
use Rattle.pc_reply.proofs.SpellLemmas.{AreSpellings-append, one_spelling, peel}

-- the limit before the first line and behind it
limit_first : (whole : List ℕ) → whole ≡ [] → limit_behind whole ≡ 512
limit_first whole is = ap limit_behind is

limit_later : (whole : List ℕ) (line : List ℕ) (lines : List (List ℕ)) → AreSpellings whole (line ∷ lines) → limit_behind whole ≡ 1000
limit_later whole line lines (spelling, (others, are)) =
    let s = spelled spelling line are.1 in
    let some : 0 < length whole = omega (arith, ap length are.0, length-append spelling others, ap length s.2, length-append s.0 (10 ∷ [])) in
    at (length whole) some
  where
    at : (n : ℕ) → 0 < n → ◌≡◌ {A = ℕ} (cond (n == 0) 512 1000) 1000
    at n some = grind (arith, nat_tests)

-- what a feed of lines holds, where the line is past its limit and where it isn't
past_line : (limit : ℕ) (part : List ℕ) → is_past (fed limit part) ≡ true → limit < length (without_return (before_feed part))
past_line limit part past =
    let cut : limit < length (without_return (take (limit + 2) (before_feed part))) = above limit (length (without_return (take (limit + 2) (before_feed part)))) past in
    (past_cut limit (before_feed part)).0 cut
  where
    above : (m n : ℕ) → nat_lt m n ≡ true → m < n
    above m n e = grind (arith, nat_tests)

short_line : (limit : ℕ) (part : List ℕ) → is_past (fed limit part) ≡ false → length (without_return (before_feed part)) ≤ limit
short_line limit part short = elim (cases_lt limit (length (without_return (before_feed part)))) [
  | inl past ↦ absurd (below limit (length (without_return (take (limit + 2) (before_feed part)))) short ((past_cut limit (before_feed part)).1 past))
  | inr fits ↦ fits
]
  where
    below : (m n : ℕ) → nat_lt m n ≡ false → m < n → ⊥
    below m n e less = grind (arith, nat_tests)

-- a line that isn't past its limit is kept whole
kept_line : (limit : ℕ) (part : List ℕ) → is_past (fed limit part) ≡ false → take (limit + 2) (before_feed part) ≡ before_feed part
kept_line limit part short =
    take_all (limit + 2) (before_feed part) (omega (arith, short_line limit part short, length-without_return (before_feed part)))

-- a line is no shorter for what follows
grows : (part rest : List ℕ) → length (without_return (before_feed part)) ≤ length (without_return (before_feed (part ++ rest)))
grows part rest = elim (cases_Bool (has_feed part)) [
  | inl e ↦ omega (arith, ap (λ bytes. length (without_return bytes)) (before_feed-past part rest e))
  | inr e ↦ omega (arith, without_return-append part (before_feed rest), ap (λ bytes. length (without_return bytes)) (before_feed-append part rest e), ap (λ bytes. length (without_return bytes)) (before_feed-open part e))
]

-- a line past its limit fits no reply
no_reply_long : (progress : Progress) (lines : List (List ℕ)) (whole line : List ℕ) (others : List (List ℕ)) (reply : Reply) → Makes progress lines → AreSpellings whole lines → limit_behind whole < length line → IsSentAs reply (lines ++ line ∷ others) → ⊥
no_reply_long no_line lines whole line others reply made are long sent =
    let P : List (List ℕ) → Type 0 = λ all. AreSpellings whole all in
    let Q : List (List ℕ) → Type 0 = λ all. IsSentAs reply (all ++ line ∷ others) in
    none_long_head reply line others (omega (arith, long, limit_first whole (subst P made are))) (subst Q made sent)
no_reply_long (listing head contents) lines whole line others reply (first, (inner, (is, head_is, short, lists, carry, fit, few))) are long sent =
    let P : List (List ℕ) → Type 0 = λ all. AreSpellings whole all in
    let Q : List (List ℕ) → Type 0 = λ all. IsSentAs reply (all ++ line ∷ others) in
    none_too_long reply head first line inner contents others head_is lists carry (omega (arith, long, limit_later whole first inner (subst P is are))) (subst Q is sent)
no_reply_long (stopped place) lines whole line others reply made are long sent = absurd made
no_reply_long wanting lines whole line others reply made are long sent = absurd made

-- some reply begins with the lines taken
pub begins : (progress : Progress) (lines : List (List ℕ)) (whole : List ℕ) → Makes progress lines → AreSpellings whole lines → BeginsReply whole
begins progress lines whole made are =
    let ends = ends_with progress lines made in
    let last = ends.1.0 in
    let rest = last ++ 13 ∷ 10 ∷ [] in record {
      lines = lines;
      spelled = are;
      reply = ends.0;
      rest = rest;
      goes_on = omega (arith, length-append last (13 ∷ 10 ∷ []));
      is = (lines ++ last ∷ [], (AreSpellings-append whole rest lines (last ∷ []) are (one_spelling rest last (ends.1.1.1, inl refl)), ends.1.1.0));
    }

-- the lines of a reply that begins with the bytes
behind : (whole part rest : List ℕ) (lines : List (List ℕ)) (reply : Reply) → AreSpellings whole lines → IsReply reply ((whole ++ part) ++ rest) → (others : List (List ℕ)) × (IsSentAs reply (lines ++ others) × AreSpellings (part ++ rest) others)
behind whole part rest lines reply are (all, (also, sent)) =
    let P : List ℕ → Type 0 = λ bytes. AreSpellings bytes all in
    let found = peel whole (part ++ rest) lines all are (subst P (append_assoc whole part rest) also) in
    (found.0, (subst (λ (all : List (List ℕ)). IsSentAs reply all) found.1.0 sent, found.1.1))

-- the line that is past its limit is the first that fits no reply
stops_long : (progress : Progress) (lines : List (List ℕ)) (whole part : List ℕ) (place : ℕ) → Makes progress lines → AreSpellings whole lines → place ≡ length whole → IsOneLine part → is_past (fed (limit_behind whole) part) ≡ true → FitsNone (whole ++ part) place
stops_long progress lines whole part place made are at one past =
    let long = past_line (limit_behind whole) part past in record {
      whole = whole;
      part = part;
      split = refl;
      at = at;
      begins = begins progress lines whole made are;
      line = one;
      over = elim (cases_Bool (has_feed part)) [ inl e ↦ inl e | inr e ↦ inr (omega (arith, long, ap (λ bytes. length (without_return bytes)) (before_feed-open part e))) ];
      none = λ reply rest is. let found = behind whole part rest lines reply are is in by_lines reply rest found.0 long found.1.0 found.1.1;
    }
  where
    by_lines : (reply : Reply) (rest : List ℕ) (others : List (List ℕ)) → limit_behind whole < length (without_return (before_feed part)) → IsSentAs reply (lines ++ others) → AreSpellings (part ++ rest) others → ⊥
    by_lines reply rest [] long sent also =
        let none : part ≡ [] = nil_from_length part (omega (arith, ap length also, length-append part rest)) in
        omega (arith, long, ap (λ bytes. length (without_return (before_feed bytes))) none)
    by_lines reply rest (line ∷ others) long sent (spelling, (more, also)) =
        let s = spelled spelling line also.1 in
        let text : part ++ rest ≡ s.0 ++ 10 ∷ more = also.0 ∙ ap (λ bytes. bytes ++ more) s.2 ∙ append_assoc s.0 (10 ∷ []) more in
        let is : without_return (before_feed (part ++ rest)) ≡ line = ap (λ bytes. without_return (before_feed bytes)) text ∙ ap without_return (before_feed-feed s.0 more s.1) ∙ s.3 in
        no_reply_long progress lines whole line others reply made are (omega (arith, long, grows part rest, ap length is)) sent

-- what a feed holds of a reply of which these bytes came
state_of : Progress → ℕ → List ℕ → List ℕ → ReplyState
state_of progress place whole part =
    record { progress = progress; place = place; line = fed (limit_behind whole) part }

-- a whole line that isn't past its limit, and what it spells
whole_line : (limit : ℕ) (part : List ℕ) → IsOneLine part → has_feed part ≡ true → is_past (fed limit part) ≡ false → IsSpelling part (without_return (take (limit + 2) (before_feed part))) × (length (without_return (take (limit + 2) (before_feed part))) ≤ limit) × (length (take (limit + 2) (before_feed part)) + 1 ≡ length part)
whole_line limit part (inl unended) ended short = absurd (false≢true (sym unended ∙ ended))
whole_line limit part (inr is) ended short =
    let kept = kept_line limit part short in
    let P : List ℕ → Type 0 = λ bytes. IsSpelling bytes (without_return (take (limit + 2) (before_feed part))) in
    let spells : IsSpelling (before_feed part ++ 10 ∷ []) (without_return (take (limit + 2) (before_feed part))) = rw kept (IsSpelling-front (before_feed part) (open-before_feed part)) in
    (subst P (sym is) spells, omega (arith, short_line limit part short, ap (λ bytes. length (without_return bytes)) kept), omega (arith, ap length kept, ap length is, length-append (before_feed part) (10 ∷ [])))

-- a whole line that fits no reply behind the others is the first such
stops_whole : (progress : Progress) (lines : List (List ℕ)) (whole part line : List ℕ) (place : ℕ) → Makes progress lines → AreSpellings whole lines → place ≡ length whole → IsOneLine part → has_feed part ≡ true → IsSpelling part line → ((reply : Reply) (others : List (List ℕ)) → IsSentAs reply (lines ++ line ∷ others) → ⊥) → FitsNone (whole ++ part) place
stops_whole progress lines whole part line place made are at one ended spells none = record {
  whole = whole;
  part = part;
  split = refl;
  at = at;
  begins = begins progress lines whole made are;
  line = one;
  over = inl ended;
  none = λ reply rest is.
      let found = behind whole part rest lines reply are is in
      let more = peel part rest (line ∷ []) found.0 (one_spelling part line spells) found.1.1 in
      none reply more.0 (subst (λ (all : List (List ℕ)). IsSentAs reply (lines ++ all)) more.1.0 found.1.0);
}

-- a line more was taken, and the reply goes on
goes_on : (progress next : Progress) (lines : List (List ℕ)) (whole part line : List ℕ) (place : ℕ) → AreSpellings whole lines → place ≡ length whole → IsSpelling part line → Makes next (lines ++ line ∷ []) → length (take (limit_behind whole + 2) (before_feed part)) + 1 ≡ length part → GoesOn (whole ++ part) × HasCome (moved (state_of progress place whole part) next) (whole ++ part)
unfolding state_of
goes_on progress next lines whole part line place are at spells made size =
    let all : AreSpellings (whole ++ part) (lines ++ line ∷ []) = AreSpellings-append whole part lines (line ∷ []) are (one_spelling part line spells) in
    let limit : limit_behind (whole ++ part) ≡ 1000 = later lines all in (
      record { whole = whole ++ part; part = []; split = sym (append-nil (whole ++ part)); unended = refl; begins = begins next (lines ++ line ∷ []) (whole ++ part) made all; short = omega (arith, limit) },
      record {
        lines = lines ++ line ∷ [];
        whole = whole ++ part;
        part = [];
        split = sym (append-nil (whole ++ part));
        spelled = all;
        makes = made;
        place = omega (arith, at, size, length-append whole part);
        line = ap (λ n. fed n []) (sym limit);
        one = inl refl;
      },
    )
  where
    later : (front : List (List ℕ)) → AreSpellings (whole ++ part) (front ++ line ∷ []) → limit_behind (whole ++ part) ≡ 1000
    later [] all = limit_later (whole ++ part) line [] all
    later (first ∷ others) all = limit_later (whole ++ part) first (others ++ line ∷ []) all

-- a head is taken
head_tells : (lines : List (List ℕ)) (whole part line : List ℕ) (place : ℕ) (new : ReplyState) (result : Result ReplyNext Memory) → lines ≡ [] → AreSpellings whole lines → place ≡ length whole → IsOneLine part → has_feed part ≡ true → IsSpelling part line → length line ≤ limit_behind whole → length (take (limit_behind whole + 2) (before_feed part)) + 1 ≡ length part → TakesHead (state_of no_line place whole part) line new result → Tells (whole ++ part) new result
unfolding state_of
head_tells lines whole part line place new (Ok (Whole reply)) made are at one ended spells fits size (is, lists, none, after) =
    let P : List (List ℕ) → Type 0 = λ all. AreSpellings whole all in
    let short : length line ≤ 512 = omega (arith, fits, limit_first whole (subst P made are)) in
    ((line ∷ [], (subst (λ (all : List (List ℕ)). AreSpellings (whole ++ part) (all ++ line ∷ [])) made (AreSpellings-append whole part lines (line ∷ []) are (one_spelling part line spells)), head_ends reply line is lists none short)), after)
head_tells lines whole part line place new (Ok More) made are at one ended spells fits size (head, (is, lists, after)) =
    let P : List (List ℕ) → Type 0 = λ all. AreSpellings whole all in
    let short : length line ≤ 512 = omega (arith, fits, limit_first whole (subst P made are)) in
    let makes : Makes (listing head []) (lines ++ line ∷ []) = (line, ([], (ap (λ all. all ++ line ∷ []) made, is, short, lists, tt, refl, refl))) in
    let both = goes_on no_line (listing head []) lines whole part line place are at spells makes size in
    (both.0, subst (λ (state : ReplyState). HasCome state (whole ++ part)) (sym after) both.1)
head_tells lines whole part line place new (Ok (Bad found)) made are at one ended spells fits size (none, (is, after)) =
    let same : found ≡ place = cc in
    let first : FitsNone (whole ++ part) place = stops_whole no_line lines whole part line place made are at one ended spells (λ reply others sent. none_no_head reply line others none (subst (λ (all : List (List ℕ)). IsSentAs reply (all ++ line ∷ others)) made sent)) in
    (subst (λ (n : ℕ). FitsNone (whole ++ part) n) (sym same) first, ap (λ (state : ReplyState). state.progress) after ∙ ap stopped (sym same))
head_tells lines whole part line place new (Err memory) made are at one ended spells fits size taken = absurd taken

-- a line of a list is taken
item_tells : (head : Head) (contents lines : List (List ℕ)) (whole part line : List ℕ) (place : ℕ) (new : ReplyState) (result : Result ReplyNext Memory) → Makes (listing head contents) lines → AreSpellings whole lines → place ≡ length whole → IsOneLine part → has_feed part ≡ true → IsSpelling part line → length line ≤ limit_behind whole → length (take (limit_behind whole + 2) (before_feed part)) + 1 ≡ length part → TakesItem (state_of (listing head contents) place whole part) head contents line new result → Tells (whole ++ part) new result
unfolding state_of
item_tells head contents lines whole part line place new (Ok (Whole reply)) (first, (inner, (is, head_is, short, lists, carry, fit, few))) are at one ended spells fits size (ends, made, after) =
    let sent : IsSentAs (record { head = head; lines = contents }) (lines ++ line ∷ []) = subst (λ (all : List (List ℕ)). IsSentAs (record { head = head; lines = contents }) (all ++ line ∷ [])) (sym is) (dot_ends head first line inner contents head_is short lists carry fit few ends) in
    ((lines ++ line ∷ [], (AreSpellings-append whole part lines (line ∷ []) are (one_spelling part line spells), subst (λ (reply : Reply). IsSentAs reply (lines ++ line ∷ [])) (sym made) sent)), after)
item_tells head contents lines whole part line place new (Ok More) (first, (inner, (is, head_is, short, lists, carry, fit, few))) are at one ended spells fits size (apart, enough, after) =
    let P : List (List ℕ) → Type 0 = λ all. AreSpellings whole all in
    let limit : limit_behind whole ≡ 1000 = limit_later whole first inner (subst P is are) in
    let small : nat_le (length line) 1000 ≡ true = within (length line) (omega (arith, fits, limit)) in
    let makes : Makes (listing head (contents ++ content_of line ∷ [])) (lines ++ line ∷ []) = (first, (inner ++ line ∷ [], (ap (λ all. all ++ line ∷ []) is, head_is, short, lists, carry_push inner contents line carry apart, list_all-push (λ line. nat_le (length line) 1000) inner line fit small, enough))) in
    let both = goes_on (listing head contents) (listing head (contents ++ content_of line ∷ [])) lines whole part line place are at spells makes size in
    (both.0, subst (λ (state : ReplyState). HasCome state (whole ++ part)) (sym after) both.1)
  where
    within : (n : ℕ) → n ≤ 1000 → nat_le n 1000 ≡ true
    within n few = grind (arith, nat_tests)
item_tells head contents lines whole part line place new (Ok (Bad found)) (first, (inner, (is, head_is, short, lists, carry, fit, few))) are at one ended spells fits size (apart, past, (same_place, after)) =
    let same : found ≡ place = cc in
    let first_fault : FitsNone (whole ++ part) place = stops_whole (listing head contents) lines whole part line place (first, (inner, (is, head_is, short, lists, carry, fit, few))) are at one ended spells (λ reply others sent. none_too_much reply head first line inner contents others head_is lists carry apart past (subst (λ (all : List (List ℕ)). IsSentAs reply (all ++ line ∷ others)) is sent)) in
    (subst (λ (n : ℕ). FitsNone (whole ++ part) n) (sym same) first_fault, ap (λ (state : ReplyState). state.progress) after ∙ ap stopped (sym same))
item_tells head contents lines whole part line place new (Err memory) made are at one ended spells fits size (apart, enough, after) =
    ap (λ (state : ReplyState). state.progress) after

-- a whole line within its limit is taken
whole_tells : (progress : Progress) (lines : List (List ℕ)) (whole part : List ℕ) (place : ℕ) (new : ReplyState) (result : Result ReplyNext Memory) → Makes progress lines → AreSpellings whole lines → place ≡ length whole → IsOneLine part → has_feed part ≡ true → is_past (fed (limit_behind whole) part) ≡ false → TakesWhole (state_of progress place whole part) progress (without_return (take (limit_behind whole + 2) (before_feed part))) new result → Tells (whole ++ part) new result
whole_tells no_line lines whole part place new result made are at one ended short taken =
    let line = whole_line (limit_behind whole) part one ended short in
    head_tells lines whole part (without_return (take (limit_behind whole + 2) (before_feed part))) place new result made are at one ended line.0 line.1 line.2 taken
whole_tells (listing head contents) lines whole part place new result made are at one ended short taken =
    let line = whole_line (limit_behind whole) part one ended short in
    item_tells head contents lines whole part (without_return (take (limit_behind whole + 2) (before_feed part))) place new result made are at one ended line.0 line.1 line.2 taken
whole_tells (stopped at) lines whole part place new result made are is one ended short taken = absurd made
whole_tells wanting lines whole part place new result made are is one ended short taken = absurd made

-- the next line is taken, waited for or refused
going_tells : (progress : Progress) (lines : List (List ℕ)) (whole part : List ℕ) (place : ℕ) (new : ReplyState) (result : Result ReplyNext Memory) → Makes progress lines → AreSpellings whole lines → place ≡ length whole → IsOneLine part → TakesNext (state_of progress place whole part) new result → Tells (whole ++ part) new result
unfolding state_of
going_tells progress lines whole part place new result made are at one taken =
    by_past (is_past (fed (limit_behind whole) part)) refl taken
  where
    waits : has_feed part ≡ false → is_past (fed (limit_behind whole) part) ≡ false → (result ≡ Ok More) × (new ≡ record { progress = progress; place = place; line = fed (limit_behind whole) part }) → Tells (whole ++ part) new result
    waits unended short (is, same) =
        let little : length (without_return part) ≤ limit_behind whole = omega (arith, short_line (limit_behind whole) part short, ap (λ bytes. length (without_return bytes)) (before_feed-open part unended)) in
        let still : HasCome (record { progress = progress; place = place; line = fed (limit_behind whole) part }) (whole ++ part) = record { lines = lines; whole = whole; part = part; split = refl; spelled = are; makes = made; place = at; line = refl; one = one } in
        let told : Tells (whole ++ part) new (Ok More) = (record { whole = whole; part = part; split = refl; unended = unended; begins = begins progress lines whole made are; short = little }, subst (λ (state : ReplyState). HasCome state (whole ++ part)) (sym same) still) in
        subst (λ (answer : Result ReplyNext Memory). Tells (whole ++ part) new answer) (sym is) told

    by_whole : (w : Bool) → has_feed part ≡ w → is_past (fed (limit_behind whole) part) ≡ false → MatchBool w (TakesWhole (record { progress = progress; place = place; line = fed (limit_behind whole) part }) progress (without_return (take (limit_behind whole + 2) (before_feed part))) new result) ((result ≡ Ok More) × (new ≡ record { progress = progress; place = place; line = fed (limit_behind whole) part })) → Tells (whole ++ part) new result
    by_whole true ended short taken = whole_tells progress lines whole part place new result made are at one ended short taken
    by_whole false unended short taken = waits unended short taken

    by_past : (b : Bool) → is_past (fed (limit_behind whole) part) ≡ b → MatchBool b ((next : ReplyNext) × ((result ≡ Ok next) × Stops (record { progress = progress; place = place; line = fed (limit_behind whole) part }) new next)) (MatchBool (has_feed part) (TakesWhole (record { progress = progress; place = place; line = fed (limit_behind whole) part }) progress (without_return (take (limit_behind whole + 2) (before_feed part))) new result) ((result ≡ Ok More) × (new ≡ record { progress = progress; place = place; line = fed (limit_behind whole) part }))) → Tells (whole ++ part) new result
    by_past true past (next, (is, (stops, same))) =
        let told : Tells (whole ++ part) new (Ok (Bad place)) = (stops_long progress lines whole part place made are at one past, ap (λ (state : ReplyState). state.progress) same) in
        subst (λ (answer : Result ReplyNext Memory). Tells (whole ++ part) new answer) (sym (is ∙ ap Ok stops)) told
    by_past false short taken = by_whole (has_feed part) refl short taken

-- a call of `next` tells what is true of the bytes
state_tells : (progress : Progress) (lines : List (List ℕ)) (whole part : List ℕ) (place : ℕ) (new : ReplyState) (result : Result ReplyNext Memory) → Makes progress lines → AreSpellings whole lines → place ≡ length whole → IsOneLine part → Nexts (state_of progress place whole part) progress new result → Tells (whole ++ part) new result
state_tells no_line lines whole part place new result made are at one nexts = going_tells no_line lines whole part place new result made are at one nexts
state_tells (listing head contents) lines whole part place new result made are at one nexts = going_tells (listing head contents) lines whole part place new result made are at one nexts
state_tells (stopped where_) lines whole part place new result made are at one nexts = absurd made
state_tells wanting lines whole part place new result made are at one nexts = absurd made

pub next_tells : (old new : ReplyState) (bytes : List ℕ) (result : Result ReplyNext Memory) → HasCome old bytes → Nexts old old.progress new result → Tells bytes new result
unfolding state_of
next_tells old new bytes result come nexts =
    let same : old ≡ state_of old.progress old.place come.whole come.part = ap (λ line. state_with old.progress old.place line) come.line in
    let moved_on : Nexts (state_of old.progress old.place come.whole come.part) old.progress new result = subst (λ (state : ReplyState). Nexts state old.progress new result) same nexts in
    subst (λ (bytes : List ℕ). Tells bytes new result) (sym come.split) (state_tells old.progress come.lines come.whole come.part old.place new result come.makes come.spelled come.place come.one moved_on)
  where
    state_with : Progress → ℕ → FeedState → ReplyState
    state_with progress place line = record { progress = progress; place = place; line = line }
