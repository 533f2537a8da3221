-- Lines that end in a piece: what is spelled, answered and written once one more was.
use Rattle.std.proofs.Common.{◌≡◌, ◌⊎◌, inl, inr, ℕ, suc, ◌<◌, ◌≤◌, ◌==◌, arith, length-drop, Bool, true, false, cond, ◌||◌, List, [], ◌∷◌, ◌++◌, length, take, drop, Option, None, Some, is_some, MatchBool, refl, sym, ap, subst, ◌∙◌, append_assoc}
use Rattle.std.specs.Io.BufRead.{take_through}
use Rattle.std.specs.Io.KnownBytes.{Appends}
use Rattle.std.proofs.KnownBytes.{Appends-nil, Appends-trans}
use Rattle.std.proofs.lemmas.Bool.{eqb-true, false≢true, or_parts}
use Rattle.std.proofs.lemmas.List.{append-nil, take-append-drop}
use Rattle.pc_base.specs.Stream.{AppendsFront}
use Rattle.pc_reply.specs.Reply.{written_reply}
use Rattle.pc_reply.specs.declared.reply.Reply.{Reply}
use Rattle.pc_wire.specs.LineFeed.{FeedState, Feeds, fed}
use Rattle.pc_wire.specs.Lines.{AreSpellings, IsSpelling, before_feed, has_feed, is_feed, without_return}
use Rattle.pc_session.specs.Conversation.{CutShort, Exchange, Exchanges, LastLeaves, Leaves, NoneLeaves, Spells}
use Rattle.pc_session.specs.Desks.{Desks}
use Rattle.pc_wire.specs.Next.{ShowsLine, ShowsNext}
use Rattle.pc_wire.specs.declared.line_feed.Next.{Next}
use Rattle.pc_session.specs.Talking.{AnswersLine, AnswersNext, AnswersPiece, LineEnds, PieceEnds, Waits}
use Rattle.pc_session.specs.Turn.{SessionValue}
use Rattle.pc_session.specs.declared.conversing.Cause.{Cause}
use Rattle.pc_session.specs.declared.conversing.Cause.TheVariants.{Left, End, LinkFault, Long}

-- ---- bytes of lines

-- the bytes that a feed takes up to an LF
take_to_feed : (piece : List ℕ) → has_feed piece ≡ true → take (length (take_through 10 piece)) piece ≡ before_feed piece ++ 10 ∷ []
take_to_feed [] h = absurd (false≢true h)
take_to_feed (b ∷ bs) h = by_test (is_feed b) refl h (take_to_feed bs)
  where
    by_test : (t : Bool) → is_feed b ≡ t → (t || has_feed bs) ≡ true → (has_feed bs ≡ true → take (length (take_through 10 bs)) bs ≡ before_feed bs ++ 10 ∷ []) → take (length (cond t (b ∷ []) (b ∷ take_through 10 bs))) (b ∷ bs) ≡ cond t [] (b ∷ before_feed bs) ++ 10 ∷ []
    by_test true e h rest = ap (λ byte. byte ∷ []) (eqb-true b 10 e)
    by_test false e h rest = ap (λ bytes. b ∷ bytes) (rest h)

open_before : (bytes : List ℕ) → has_feed (before_feed bytes) ≡ false
open_before [] = refl
open_before (b ∷ bs) = by_test (is_feed b) refl (open_before bs)
  where
    by_test : (t : Bool) → is_feed b ≡ t → has_feed (before_feed bs) ≡ false → has_feed (cond t [] (b ∷ before_feed bs)) ≡ false
    by_test true e rest = refl
    by_test false e rest = rw e rest

open_both : (front rest : List ℕ) → has_feed front ≡ false → has_feed rest ≡ false → has_feed (front ++ rest) ≡ false
open_both [] rest h k = k
open_both (b ∷ bs) rest h k =
    let p = or_parts (is_feed b) (has_feed bs) h in rw p.0 (open_both bs rest p.1 k)

-- they spell the line that waits, behind those that were taken before
pub spells_taken : ((front : List ℕ) → has_feed front ≡ false → IsSpelling (front ++ 10 ∷ []) (without_return front)) → (limit : ℕ) (begun : List ℕ) (new : FeedState) (piece : List ℕ) (count : ℕ) → has_feed begun ≡ false → Feeds (fed limit begun) new piece count → new.is_whole ≡ true → IsSpelling (begun ++ take count piece) (without_return (begun ++ before_feed piece))
spells_taken law limit begun new piece count tail feeds whole =
    let took = feeds.takes tail in
    let has : has_feed piece ≡ true = sym (ap (λ (f : FeedState). f.is_whole) took.1) ∙ whole in
    let taken : take count piece ≡ before_feed piece ++ 10 ∷ [] = ap (λ n. take n piece) took.0 ∙ take_to_feed piece has in
    let all : begun ++ take count piece ≡ (begun ++ before_feed piece) ++ 10 ∷ [] = ap (λ bytes. begun ++ bytes) taken ∙ sym (append_assoc begun (before_feed piece) (10 ∷ [])) in
    subst (λ bytes. IsSpelling bytes (without_return (begun ++ before_feed piece))) (sym all) (law (begun ++ before_feed piece) (open_both begun (before_feed piece) tail (open_before piece)))

spellings_both : (bytes more : List ℕ) (lines others : List (List ℕ)) → AreSpellings bytes lines → AreSpellings more others → AreSpellings (bytes ++ more) (lines ++ others)
spellings_both bytes more [] others h k = subst (λ all. AreSpellings all others) (ap (λ front. front ++ more) (sym h)) k
spellings_both bytes more (line ∷ lines) others (one, (rest, (split, is, h))) k =
    (one, (rest ++ more, (ap (λ front. front ++ more) split ∙ append_assoc one rest more, is, spellings_both rest more lines others h k)))

pub spells_both : (text more : List ℕ) (lines others : List (List ℕ)) (tail rest : List ℕ) → Spells text lines tail → Spells (tail ++ more) others rest → Spells (text ++ more) (lines ++ others) rest
spells_both text more lines others tail rest first then = record {
  spellings = first.spellings ++ then.spellings;
  split = ap (λ front. front ++ more) first.split ∙ append_assoc first.spellings tail more ∙ ap (λ all. first.spellings ++ all) then.split ∙ sym (append_assoc first.spellings then.spellings rest);
  spelled = spellings_both first.spellings then.spellings lines others first.spelled then.spelled;
}

-- one line, and no line
pub spells_line : (spelling line : List ℕ) → IsSpelling spelling line → Spells spelling (line ∷ []) []
spells_line spelling line is = record { spellings = spelling; split = sym (append-nil spelling); spelled = (spelling, ([], (sym (append-nil spelling), is, refl))) }

pub spells_none : (text : List ℕ) → Spells text [] text
spells_none text = record { spellings = []; split = refl; spelled = refl }

pub spells_on : (text : List ℕ) (lines : List (List ℕ)) (tail more : List ℕ) → Spells text lines tail → Spells (text ++ more) lines (tail ++ more)
spells_on text lines tail more spells = record {
  spellings = spells.spellings;
  split = ap (λ front. front ++ more) spells.split ∙ append_assoc spells.spellings tail more;
  spelled = spells.spelled;
}

-- ---- answers

module _ (desks_told disks_tell : Type 0) (users : List ℕ → Bool) where
  pub exchanges_both : (lines others : List (List ℕ)) (old : Desks) (s : SessionValue) (bytes more : List ℕ) (middle : Desks) (then : SessionValue) (new : Desks) (after : SessionValue) → Exchanges desks_told disks_tell users lines old s bytes middle then → Exchanges desks_told disks_tell users others middle then more new after → Exchanges desks_told disks_tell users (lines ++ others) old s (bytes ++ more) new after
  exchanges_both [] others old s bytes more middle then new after h k =
      subst (λ all. Exchanges desks_told disks_tell users others old s all new after) (ap (λ front. front ++ more) (sym h.0)) (subst (λ (d : Desks). Exchanges desks_told disks_tell users others d s more new after) h.1 (subst (λ (t : SessionValue). Exchanges desks_told disks_tell users others middle t more new after) h.2 k))
  exchanges_both (line ∷ lines) others old s bytes more middle then new after (reply, (rest, (d, (t, (split, exchange, h))))) k =
      (reply, (rest ++ more, (d, (t, (ap (λ front. front ++ more) split ∙ append_assoc (written_reply reply) rest more, exchange, exchanges_both lines others d t rest more middle then new after h k)))))

  pub exchange_alone : (line : List ℕ) (old : Desks) (s : SessionValue) (reply : Reply) (new : Desks) (after : SessionValue) → Exchange desks_told disks_tell users line old s reply new after → Exchanges desks_told disks_tell users (line ∷ []) old s (written_reply reply) new after
  exchange_alone line old s reply new after one = (reply, ([], (new, (after, (sym (append-nil (written_reply reply)), one, (refl, refl, refl))))))

pub none_both : (lines others : List (List ℕ)) → NoneLeaves lines → NoneLeaves others → NoneLeaves (lines ++ others)
none_both [] others h k = k
none_both (line ∷ lines) others (stays, h) k = (stays, none_both lines others h k)

pub last_both : (lines others : List (List ℕ)) → NoneLeaves lines → LastLeaves others → LastLeaves (lines ++ others)
last_both lines others stay last = record {
  others = lines ++ last.others;
  last = last.last;
  lines_are = ap (λ all. lines ++ all) last.lines_are ∙ sym (append_assoc lines last.others (last.last ∷ []));
  leaves = last.leaves;
  stay = none_both lines last.others stay last.stay;
}

pub last_alone : (line : List ℕ) → Leaves line → LastLeaves (line ∷ [])
last_alone line leaves = record { others = []; last = line; lines_are = refl; leaves = leaves; stay = _ }

-- some leave or none does, behind lines of which none does
pub some_both : (lines others : List (List ℕ)) → NoneLeaves lines → NoneLeaves others ⊎ LastLeaves others → NoneLeaves (lines ++ others) ⊎ LastLeaves (lines ++ others)
some_both lines others stay (inl none) = inl (none_both lines others stay none)
some_both lines others stay (inr last) = inr (last_both lines others stay last)

-- ---- what is written

pub cut_behind : (a b c : Option (List ℕ)) (front bytes : List ℕ) → Appends a b front → CutShort bytes b c → CutShort (front ++ bytes) a c
cut_behind a b c front bytes wrote cut = record {
  before = front ++ cut.before;
  reply = cut.reply;
  split = ap (λ all. front ++ all) cut.split ∙ sym (append_assoc front cut.before (written_reply cut.reply));
  middle = cut.middle;
  whole = Appends-trans a b cut.middle front cut.before wrote cut.whole;
  front = cut.front;
}

-- the first reply
pub cut_alone : (a b : Option (List ℕ)) (reply : Reply) → AppendsFront a b (written_reply reply) → CutShort (written_reply reply) a b
cut_alone a b reply front = record { before = []; reply = reply; split = refl; middle = a; whole = Appends-nil a; front = front }

-- ---- a piece

module _ (desks_told disks_tell : Type 0) (users : List ℕ → Bool) (begun piece : List ℕ) (old : Desks) (s : SessionValue) (written : Option (List ℕ)) where
  -- the lines that end in what was taken of a piece were answered, and this is left of it
  pub record InPiece (new : Desks) (after : SessionValue) (written' : Option (List ℕ)) (feed : FeedState) (rest : List ℕ) : Type 0 where
    pub done : List ℕ
    pub split : piece ≡ done ++ rest
    pub lines : List (List ℕ)
    pub bytes : List ℕ
    pub tail : List ℕ
    pub spells : Spells (begun ++ done) lines tail
    pub no_feed : has_feed tail ≡ false
    pub holds : feed ≡ fed 512 tail
    pub stay : NoneLeaves lines
    pub exchanges : Exchanges desks_told disks_tell users lines old s bytes new after
    pub wrote : Appends written written' bytes

  -- at first
  pub piece_begins : (feed : FeedState) → has_feed begun ≡ false → feed ≡ fed 512 begun → InPiece old s written feed piece
  piece_begins feed tail holds = record {
    done = [];
    split = refl;
    lines = [];
    bytes = [];
    tail = begun;
    spells = record { spellings = []; split = append-nil begun; spelled = refl };
    no_feed = tail;
    holds = holds;
    stay = _;
    exchanges = (refl, refl, refl);
    wrote = Appends-nil written;
  }

  module _ (new : Desks) (after : SessionValue) (written' : Option (List ℕ)) (feed : FeedState) (rest : List ℕ) (so_far : InPiece new after written' feed rest) where
    -- no line ends in the rest
    pub piece_goes_on : (feed' : FeedState) (count : ℕ) → count ≡ length rest → has_feed (so_far.tail ++ rest) ≡ false → feed' ≡ fed 512 (so_far.tail ++ rest) → InPiece new after written' feed' (drop count rest)
    piece_goes_on feed' count all tail holds =
        let none : drop count rest ≡ [] = ap (λ n. drop n rest) all ∙ drop_all rest in
        record {
          done = so_far.done ++ rest;
          split = so_far.split ∙ sym (append-nil (so_far.done ++ rest)) ∙ ap (λ more. (so_far.done ++ rest) ++ more) (sym none);
          lines = so_far.lines;
          bytes = so_far.bytes;
          tail = so_far.tail ++ rest;
          spells = subst (λ text. Spells text so_far.lines (so_far.tail ++ rest)) (append_assoc begun so_far.done rest) (spells_on (begun ++ so_far.done) so_far.lines so_far.tail rest so_far.spells);
          no_feed = tail;
          holds = holds;
          stay = so_far.stay;
          exchanges = so_far.exchanges;
          wrote = so_far.wrote;
        }
      where
        drop_all : (xs : List ℕ) → drop (length xs) xs ≡ []
        drop_all [] = refl
        drop_all (x ∷ xs) = drop_all xs

    module _ (count : ℕ) (line : List ℕ) (is : IsSpelling (so_far.tail ++ take count rest) line) (result : Option Cause) (new' : Desks) (after' : SessionValue) (written'' : Option (List ℕ)) (answers : AnswersLine desks_told disks_tell users line new after written' result new' after' written'') where
      abbrev lines' : List (List ℕ)
      lines' = so_far.lines ++ line ∷ []

      abbrev bytes' : List ℕ
      bytes' = so_far.bytes ++ written_reply answers.reply

      exchanges' : Exchanges desks_told disks_tell users lines' old s bytes' new' after'
      exchanges' = exchanges_both desks_told disks_tell users so_far.lines (line ∷ []) old s so_far.bytes (written_reply answers.reply) new after new' after' so_far.exchanges (exchange_alone desks_told disks_tell users line new after answers.reply new' after' answers.exchange)

      spells' : Spells (begun ++ (so_far.done ++ take count rest)) lines' []
      spells' = subst (λ text. Spells text lines' []) (append_assoc begun so_far.done (take count rest)) (spells_both (begun ++ so_far.done) (take count rest) so_far.lines (line ∷ []) so_far.tail [] so_far.spells (spells_line (so_far.tail ++ take count rest) line is))

      split' : piece ≡ (so_far.done ++ take count rest) ++ drop count rest
      split' = so_far.split ∙ ap (λ more. so_far.done ++ more) (sym (take-append-drop count rest)) ∙ sym (append_assoc so_far.done (take count rest) (drop count rest))

      whole' : Spells (begun ++ piece) lines' (drop count rest)
      whole' = subst (λ text. Spells text lines' (drop count rest)) (append_assoc begun (so_far.done ++ take count rest) (drop count rest) ∙ ap (λ text. begun ++ text) (sym split')) (spells_on (begun ++ (so_far.done ++ take count rest)) lines' [] (drop count rest) spells')

      -- a line was answered that doesn't leave
      pub piece_answers : result ≡ None → (feed' : FeedState) → feed' ≡ fed 512 [] → InPiece new' after' written'' feed' (drop count rest)
      piece_answers none feed' holds =
          let ends : LineEnds line (written_reply answers.reply) written' None written'' = subst (λ (r : Option Cause). LineEnds line (written_reply answers.reply) written' r written'') none answers.ends in
          record {
            done = so_far.done ++ take count rest;
            split = split';
            lines = lines';
            bytes = bytes';
            tail = [];
            spells = spells';
            no_feed = refl;
            holds = holds;
            stay = none_both so_far.lines (line ∷ []) so_far.stay (ends.0, _);
            exchanges = exchanges';
            wrote = Appends-trans written written' written'' so_far.bytes (written_reply answers.reply) so_far.wrote ends.1;
          }

      -- or the connection ends with it
      pub piece_ends : (cause : Cause) → result ≡ Some cause → (feed' : FeedState) → AnswersPiece desks_told disks_tell users begun piece old s written (Some cause) new' after' written'' feed'
      piece_ends cause is_cause feed' = record {
        lines = lines';
        bytes = bytes';
        rest = drop count rest;
        spells = whole';
        exchanges = exchanges';
        ends = by_cause cause (subst (λ (r : Option Cause). LineEnds line (written_reply answers.reply) written' r written'') is_cause answers.ends);
      }
        where
          by_cause : (cause : Cause) → LineEnds line (written_reply answers.reply) written' (Some cause) written'' → PieceEnds lines' bytes' (drop count rest) written (Some cause) written'' feed'
          by_cause Left ends = (last_both so_far.lines (line ∷ []) so_far.stay (last_alone line ends.0), Appends-trans written written' written'' so_far.bytes (written_reply answers.reply) so_far.wrote ends.1)
          by_cause LinkFault ends = (
            elim ends.0 [
              | inl stays ↦ inl (none_both so_far.lines (line ∷ []) so_far.stay (stays, _))
              | inr leaves ↦ inr (last_both so_far.lines (line ∷ []) so_far.stay (last_alone line leaves))
            ],
            cut_behind written written' written'' so_far.bytes (written_reply answers.reply) so_far.wrote (cut_alone written' written'' answers.reply ends.1),
          )
          by_cause End ends = absurd ends
          by_cause Long ends = absurd ends

    -- the piece was taken to its end
    pub piece_done : rest ≡ [] → AnswersPiece desks_told disks_tell users begun piece old s written None new after written' feed
    piece_done none =
        let all : piece ≡ so_far.done = so_far.split ∙ ap (λ more. so_far.done ++ more) none ∙ append-nil so_far.done in
        record {
          lines = so_far.lines;
          bytes = so_far.bytes;
          rest = so_far.tail;
          spells = subst (λ text. Spells (begun ++ text) so_far.lines so_far.tail) (sym all) so_far.spells;
          exchanges = so_far.exchanges;
          ends = (so_far.stay, so_far.no_feed, so_far.holds, so_far.wrote);
        }

-- ---- a turn

-- what is known of feeds: what stands before an LF spells a line; where an LF comes in a piece, the line that it ends is
-- shown; and where none does, the line goes on
pub record FeedLaws : Type 0 where
  pub spelled : (front : List ℕ) → has_feed front ≡ false → IsSpelling (front ++ 10 ∷ []) (without_return front)
  pub shown : (limit : ℕ) (since : List ℕ) (new : FeedState) (piece : List ℕ) (count : ℕ) (shown : Next) → has_feed since ≡ false → Feeds (fed limit since) new piece count → new.is_whole ≡ true → ShowsNext new shown → ShowsLine limit (without_return (since ++ before_feed piece)) shown
  pub goes_on : (limit : ℕ) (since : List ℕ) (new : FeedState) (piece : List ℕ) (count : ℕ) → has_feed since ≡ false → Feeds (fed limit since) new piece count → new.is_whole ≡ false → (count ≡ length piece) × (has_feed (since ++ piece) ≡ false) × (new ≡ fed limit (since ++ piece))

module _ (laws : FeedLaws) (desks_told disks_tell : Type 0) (users : List ℕ → Bool) (begun piece : List ℕ) (old : Desks) (s : SessionValue) (written : Option (List ℕ)) (new : Desks) (after : SessionValue) (written' : Option (List ℕ)) (feed fed_on : FeedState) (rest : List ℕ) (so_far : InPiece desks_told disks_tell users begun piece old s written new after written' feed rest) (count : ℕ) (feeds : Feeds feed fed_on rest count) (result : Option Cause) (new' : Desks) (after' : SessionValue) (written'' : Option (List ℕ)) (feed' : FeedState) where
  feeds' : Feeds (fed 512 so_far.tail) fed_on rest count
  feeds' = subst (λ (f : FeedState). Feeds f fed_on rest count) so_far.holds feeds

  line : List ℕ
  line = without_return (so_far.tail ++ before_feed rest)

  spells_line' : fed_on.is_whole ≡ true → IsSpelling (so_far.tail ++ take count rest) line
  unfolding line
  spells_line' whole = spells_taken laws.spelled 512 so_far.tail fed_on rest count so_far.no_feed feeds' whole

  waits : fed_on.is_whole ≡ true → Waits fed_on line
  unfolding line
  waits whole shown is = laws.shown 512 so_far.tail fed_on rest count shown so_far.no_feed feeds' whole is

  -- where the connection goes on
  pub turn_goes_on : AnswersNext desks_told disks_tell users fed_on new after written' result new' after' written'' feed' → result ≡ None → InPiece desks_told disks_tell users begun piece old s written new' after' written'' feed' (drop count rest)
  turn_goes_on next none = by_test fed_on.is_whole refl next
    where
      by_test : (whole : Bool) → fed_on.is_whole ≡ whole → MatchBool whole (((line : List ℕ) → Waits fed_on line → AnswersLine desks_told disks_tell users line new after written' result new' after' written'') × (feed' ≡ fed 512 [])) ((result ≡ None) × (new' ≡ new) × (after' ≡ after) × (written'' ≡ written') × (feed' ≡ fed_on)) → InPiece desks_told disks_tell users begun piece old s written new' after' written'' feed' (drop count rest)
      by_test true e next = piece_answers desks_told disks_tell users begun piece old s written new after written' feed rest so_far count line (spells_line' e) result new' after' written'' (next.0 line (waits e)) none feed' next.1
      by_test false e next =
          let on = laws.goes_on 512 so_far.tail fed_on rest count so_far.no_feed feeds' e in
          let stays = piece_goes_on desks_told disks_tell users begun piece old s written new after written' feed rest so_far feed' count on.0 on.1 (next.4 ∙ on.2) in
          subst (λ (d : Desks). InPiece desks_told disks_tell users begun piece old s written d after' written'' feed' (drop count rest)) (sym next.1)
          (subst (λ (t : SessionValue). InPiece desks_told disks_tell users begun piece old s written new t written'' feed' (drop count rest)) (sym next.2)
          (subst (λ (w : Option (List ℕ)). InPiece desks_told disks_tell users begun piece old s written new after w feed' (drop count rest)) (sym next.3) stays))

  -- and where it ends
  pub turn_ends : AnswersNext desks_told disks_tell users fed_on new after written' result new' after' written'' feed' → (cause : Cause) → result ≡ Some cause → AnswersPiece desks_told disks_tell users begun piece old s written (Some cause) new' after' written'' feed'
  turn_ends next cause is_cause = by_test fed_on.is_whole refl next
    where
      by_test : (whole : Bool) → fed_on.is_whole ≡ whole → MatchBool whole (((line : List ℕ) → Waits fed_on line → AnswersLine desks_told disks_tell users line new after written' result new' after' written'') × (feed' ≡ fed 512 [])) ((result ≡ None) × (new' ≡ new) × (after' ≡ after) × (written'' ≡ written') × (feed' ≡ fed_on)) → AnswersPiece desks_told disks_tell users begun piece old s written (Some cause) new' after' written'' feed'
      by_test true e next = piece_ends desks_told disks_tell users begun piece old s written new after written' feed rest so_far count line (spells_line' e) result new' after' written'' (next.0 line (waits e)) cause is_cause feed'
      by_test false e next = absurd (false≢true (ap is_some (sym next.0 ∙ is_cause)))

-- a turn takes some of the rest
pub turn_smaller : (rest : List ℕ) (count : ℕ) (is_empty : Bool) → is_empty ≡ (length rest == 0) → is_empty ≡ false → (0 < length rest → 0 < count) → count ≤ length rest → length (drop count rest) < length rest
turn_smaller [] count is_empty e more some fits = absurd (false≢true (sym more ∙ e))
turn_smaller (byte ∷ rest) count is_empty e more some fits = omega (arith, some (omega arith), fits, length-drop count (byte ∷ rest))

pub none_left : (rest : List ℕ) (is_empty : Bool) → is_empty ≡ (length rest == 0) → is_empty ≡ true → rest ≡ []
none_left [] is_empty e none = refl
none_left (byte ∷ rest) is_empty e none = absurd (false≢true (sym (more (length rest)) ∙ sym e ∙ none))
  where
    more : (n : ℕ) → (suc n == 0) ≡ false
    more n = grind (arith)
