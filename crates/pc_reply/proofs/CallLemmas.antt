-- A reply is read from its bytes, however they are cut, and whatever follows them.
use Rattle.std.proofs.Common.{◌≡◌, ℕ, ◌≤◌, Bool, true, false, inl, inr, Ok, Err, Result, List, [], ◌∷◌, ◌++◌, length, take, drop, refl, sym, ap, subst, ◌∙◌, arith, append_assoc, append-nil, length-append}
use Rattle.std.specs.Prelude.{MatchBool}
use Rattle.std.specs.Io.BufRead.{take_through}
use Rattle.std.proofs.lemmas.Bool.{cases_Bool}
use Rattle.std.proofs.lemmas.List.{take-append-drop, take-append-le, drop-append-le, append_cancel_left}
use Rattle.pc_base.specs.declared.failure.Memory.{Memory}
use Rattle.pc_wire.specs.Lines.{has_feed, before_feed, without_return}
use Rattle.pc_wire.specs.LineFeed.{FeedState, Feeds}
use Rattle.pc_wire.proofs.FeedLemmas.{piece_parts, take_through-open, take_through-feed}
use Rattle.pc_reply.specs.declared.reply.Reply.{Reply}
use Rattle.pc_reply.specs.declared.reply_feed.ReplyNext.{ReplyNext}
use Rattle.pc_reply.specs.declared.reply_feed.ReplyNext.TheVariants.{Whole, More, Bad}
use Rattle.pc_reply.specs.Reply.{IsReply, CanBeSent, written_reply}
use Rattle.pc_reply.specs.ReplyFeed.{Progress, no_line, listing, stopped, wanting, ReplyState, begun, TakesWhole, is_past, Stops, TakesNext, Nexts}
use Rattle.pc_reply.specs.Told.{HasCome, Tells}
use Rattle.pc_reply.specs.Calls.{Call, feed, next, FeedsReply, Calls, AnswersFor, Reads}
use Rattle.pc_reply.proofs.SpellLemmas.{replies_differ}
use Rattle.pc_reply.proofs.ReplyLemmas.{written_is_reply}
use Rattle.pc_reply.proofs.ToldLemmas.{next_tells}
use Rattle.pc_reply.proofs.ExactLemmas.{begun_comes, piece_comes, takes_just, goes_on_no_reply}

-- after `More` no line waits
whole_opens : (old new : ReplyState) (progress : Progress) (line : List ℕ) → TakesWhole old progress line new (Ok More) → new.line.is_whole ≡ false
whole_opens old new no_line line (head, (is, lists, after)) =
    ap (λ (state : ReplyState). state.line.is_whole) after
whole_opens old new (listing head contents) line (apart, enough, after) =
    ap (λ (state : ReplyState). state.line.is_whole) after
whole_opens old new (stopped place) line taken = absurd taken
whole_opens old new wanting line taken = absurd taken

taken_opens : (old new : ReplyState) → TakesNext old new (Ok More) → new.line.is_whole ≡ false
taken_opens old new taken = by_past (is_past old.line) taken
  where
    no_stop : (found : ReplyNext) → ◌≡◌ {A = Result ReplyNext Memory} (Ok More) (Ok found) → found ≡ Bad old.place → ⊥
    no_stop found is stops = cc

    by_whole : (w : Bool) → old.line.is_whole ≡ w → MatchBool w (TakesWhole old old.progress (without_return old.line.text) new (Ok More)) ((◌≡◌ {A = Result ReplyNext Memory} (Ok More) (Ok More)) × (new ≡ old)) → new.line.is_whole ≡ false
    by_whole true e taken = whole_opens old new old.progress (without_return old.line.text) taken
    by_whole false e (is, same) = ap (λ (state : ReplyState). state.line.is_whole) same ∙ e

    by_past : (b : Bool) → MatchBool b ((next : ReplyNext) × ((◌≡◌ {A = Result ReplyNext Memory} (Ok More) (Ok next)) × Stops old new next)) (MatchBool old.line.is_whole (TakesWhole old old.progress (without_return old.line.text) new (Ok More)) ((◌≡◌ {A = Result ReplyNext Memory} (Ok More) (Ok More)) × (new ≡ old))) → new.line.is_whole ≡ false
    by_past true (found, (is, (stops, same))) = absurd (no_stop found is stops)
    by_past false taken = by_whole old.line.is_whole refl taken

pub more_opens : (old new : ReplyState) (progress : Progress) → Nexts old progress new (Ok More) → new.line.is_whole ≡ false
more_opens old new no_line nexts = taken_opens old new nexts
more_opens old new (listing head contents) nexts = taken_opens old new nexts
more_opens old new (stopped place) (is, same) = absurd (no_bad place is)
  where
    no_bad : (place : ℕ) → ◌≡◌ {A = Result ReplyNext Memory} (Ok More) (Ok (Bad place)) → ⊥
    no_bad place is = cc
more_opens old new wanting (is, same) = absurd (no_err is)
  where
    no_err : ◌≡◌ {A = Result ReplyNext Memory} (Ok More) (Err (record {})) → ⊥
    no_err is = cc

-- what is taken of a piece is no more than the piece
within_piece : (old new : FeedState) (piece : List ℕ) (count : ℕ) → Feeds old new piece count → count ≤ length piece
within_piece old new piece count feeds = elim (cases_Bool old.is_whole) [
  | inl e ↦ omega (arith, (feeds.waits e).0)
  | inr e ↦ omega (arith, (feeds.takes e).0, through)
]
  where
    through : length (take_through 10 piece) ≤ length piece
    through = elim (cases_Bool (has_feed piece)) [
      | inl e ↦ omega (arith, ap length (take_through-feed piece e), length-append (before_feed piece) (10 ∷ []), ap length (piece_parts piece e), length-append (before_feed piece) (10 ∷ drop (length (take_through 10 piece)) piece))
      | inr e ↦ omega (arith, ap length (take_through-open piece e))
    ]

-- texts that go on alike have the same front
same_front : (n : ℕ) (xs ys zs ws : List ℕ) → xs ++ ys ≡ zs ++ ws → n ≤ length xs → n ≤ length zs → take n xs ≡ take n zs
same_front n xs ys zs ws e within also =
    sym (take-append-le n xs ys within) ∙ ap (λ all. take n all) e ∙ take-append-le n zs ws also

-- after calls some bytes of the reply came, and the others and what follows it are left
record Stands (reply : Reply) (rest : List ℕ) (state : ReplyState) (text : List ℕ) : Type 0 where
  came : List ℕ
  own : List ℕ
  come : HasCome state came
  is : IsReply reply (came ++ own)
  text_is : text ≡ own ++ rest

after_feed : (reply : Reply) (rest : List ℕ) (old new : ReplyState) (text piece beyond : List ℕ) (count : ℕ) → Stands reply rest old text → text ≡ piece ++ beyond → FeedsReply old new piece count → Stands reply rest new (drop count text)
after_feed reply rest old new text piece beyond count stands split (feeds, others) =
    let alike : piece ++ beyond ≡ stands.own ++ rest = sym split ∙ stands.text_is in
    let within = takes_just old new reply stands.came stands.own piece beyond rest count stands.come stands.is alike feeds in
    let taken : take count piece ≡ take count stands.own = same_front count piece beyond stands.own rest alike (within_piece old.line new.line piece count feeds) within in
    let parts : stands.came ++ stands.own ≡ (stands.came ++ take count piece) ++ drop count stands.own = ap (λ own. stands.came ++ own) (sym (take-append-drop count stands.own)) ∙ sym (append_assoc stands.came (take count stands.own) (drop count stands.own)) ∙ ap (λ front. (stands.came ++ front) ++ drop count stands.own) (sym taken) in
    let P : List ℕ → Type 0 = λ bytes. IsReply reply bytes in record {
      came = stands.came ++ take count piece;
      own = drop count stands.own;
      come = piece_comes old new stands.came piece count stands.come feeds others;
      is = subst P parts stands.is;
      text_is = ap (λ text. drop count text) stands.text_is ∙ drop-append-le count stands.own rest within;
    }

after_calls : (reply : Reply) (rest : List ℕ) (calls : List Call) (old new : ReplyState) (text left : List ℕ) → Stands reply rest old text → Calls old text calls new left → Stands reply rest new left
after_calls reply rest [] old new text left stands (same, all) = record {
  came = stands.came;
  own = stands.own;
  come = subst (λ (state : ReplyState). HasCome state stands.came) (sym same) stands.come;
  is = stands.is;
  text_is = all ∙ stands.text_is;
}
after_calls reply rest (feed piece ∷ calls) old new text left stands (middle, (count, (beyond, (split, feeds, later)))) =
    after_calls reply rest calls middle new (drop count text) left (after_feed reply rest old middle text piece beyond count stands split feeds) later
after_calls reply rest (next ∷ calls) old new text left stands (middle, (nexts, later)) =
    let told : Tells stands.came middle (Ok More) = next_tells old middle stands.came (Ok More) stands.come nexts in
    let again : Stands reply rest middle text = record { came = stands.came; own = stands.own; come = told.1; is = stands.is; text_is = stands.text_is } in
    after_calls reply rest calls middle new text left again later

-- what is told is the reply, or that bytes of it are still to come
answers : (reply : Reply) (came own : List ℕ) (new : ReplyState) (result : Result ReplyNext Memory) → IsReply reply (came ++ own) → Tells came new result → AnswersFor reply own new result
answers reply came own new (Ok (Whole other)) is (also, after) =
    let same = replies_differ other reply came (came ++ own) own [] also is (sym (append-nil (came ++ own))) in
    (same.1, append_cancel_left came own [] (sym same.0 ∙ sym (append-nil came)), after)
answers reply came [] new (Ok More) is told =
    absurd (goes_on_no_reply reply came told.0 (subst (λ (bytes : List ℕ). IsReply reply bytes) (append-nil came) is))
answers reply came (b ∷ bs) new (Ok More) is told = omega arith
answers reply came own new (Ok (Bad place)) is (none, after) = none.none reply own is
answers reply came own new (Err memory) is after = after

-- a reply is read from its bytes
pub reply_is_read : (reply : Reply) (bytes rest left : List ℕ) (calls : List Call) (state : ReplyState) → IsReply reply bytes → Calls begun (bytes ++ rest) calls state left → Reads reply rest state left
reply_is_read reply bytes rest left calls state is made =
    let stands = after_calls reply rest calls begun state (bytes ++ rest) left (record { came = []; own = bytes; come = begun_comes; is = is; text_is = refl }) made in
    (stands.own, (stands.text_is, λ new result nexts. answers reply stands.came stands.own new result stands.is (next_tells state new stands.came result stands.come nexts)))

-- and from what is written for it
pub written_is_read : (reply : Reply) (rest left : List ℕ) (calls : List Call) (state : ReplyState) → CanBeSent reply → Calls begun (written_reply reply ++ rest) calls state left → Reads reply rest state left
written_is_read reply rest left calls state can made =
    reply_is_read reply (written_reply reply) rest left calls state (written_is_reply reply can) made
