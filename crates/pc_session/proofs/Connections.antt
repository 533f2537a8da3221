-- A connection as its pieces come.
use Rattle.std.proofs.Common.{◌≡◌, inl, inr, ℕ, ◌+◌, ◌-◌, ◌<◌, ◌≤◌, Bool, false, List, [], ◌++◌, length, take, Option, None, Some, refl, sym, subst, arith, append_assoc, length-append, length-take-le}
use Rattle.std.specs.Io.KnownBytes.{Appends, Consumes, IsAtEnd, Keeps}
use Rattle.std.proofs.KnownBytes.{Appends-trans, Consumes-kept, Consumes-trans}
use Rattle.std.proofs.lemmas.List.{append-nil, take-append-le}
use Rattle.pc_base.specs.Stream.{AppendsFront}
use Rattle.pc_wire.specs.LineFeed.{FeedState, fed}
use Rattle.pc_wire.specs.Lines.{has_feed}
use Rattle.pc_reply.specs.declared.head.Head.TheVariants as head
use Rattle.pc_session.specs.Conversation.{CutShort, Exchanges, MOST_READ, NoneLeaves, Spells, SpellsAll, Talked, at_first, greeting}
use Rattle.pc_session.specs.Repository.{plain}
use Rattle.pc_session.specs.Desks.{Desks}
use Rattle.pc_session.specs.Talking.{AnswersPiece, PieceEnds}
use Rattle.pc_session.specs.Turn.{SessionValue}
use Rattle.pc_session.specs.declared.conversing.Cause.{Cause}
use Rattle.pc_session.specs.declared.conversing.Cause.TheVariants.{Left, End, LinkFault, Long}
use Rattle.pc_session.proofs.Pieces.{cut_alone, cut_behind, exchanges_both, last_both, none_both, some_both, spells_both, spells_none}

module _ (desks_told disks_tell : Type 0) (users : List ℕ → Bool) (old : Desks) (left written : Option (List ℕ)) where
  -- the lines that ended so far were answered, and so many bytes may still be read
  pub record Going (new : Desks) (session : SessionValue) (left' written' : Option (List ℕ)) (feed : FeedState) (rest : ℕ) : Type 0 where
    pub read : List ℕ
    pub lines : List (List ℕ)
    pub bytes : List ℕ
    pub tail : List ℕ
    pub consumed : Consumes left left' read
    pub count : length read + rest ≡ MOST_READ
    pub spells : Spells read lines tail
    pub no_feed : has_feed tail ≡ false
    pub holds : feed ≡ fed 512 tail
    pub stay : NoneLeaves lines
    pub exchanges : Exchanges desks_told disks_tell users lines old at_first bytes new session
    pub wrote : Appends written written' (greeting ++ bytes)

  -- the greeting wasn't written
  pub ungreeted : (session : SessionValue) (left' written' : Option (List ℕ)) → session ≡ at_first → Consumes left left' [] → AppendsFront written written' greeting → Talked desks_told disks_tell users old old session left left' written written' LinkFault
  ungreeted session left' written' first consumed wrote = record {
    read = [];
    lines = [];
    bytes = [];
    consumed = consumed;
    within = omega arith;
    ends = inr (inl _, ([], spells_none []), subst (λ bytes. CutShort bytes written written') (sym (append-nil greeting)) (cut_alone written written' (plain head.Ready) wrote));
    exchanges = (refl, refl, first);
  }

  pub greeted : (session : SessionValue) (left' written' : Option (List ℕ)) → session ≡ at_first → Consumes left left' [] → Appends written written' greeting → Going old session left' written' (fed 512 []) MOST_READ
  greeted session left' written' first consumed wrote = record {
    read = [];
    lines = [];
    bytes = [];
    tail = [];
    consumed = consumed;
    count = refl;
    spells = spells_none [];
    no_feed = refl;
    holds = refl;
    stay = _;
    exchanges = (refl, refl, first);
    wrote = subst (Appends written written') (sym (append-nil greeting)) wrote;
  }

  module _ (new : Desks) (session : SessionValue) (left' written' : Option (List ℕ)) (feed : FeedState) (rest : ℕ) (going : Going new session left' written' feed rest) where
    all_read : SpellsAll going.read going.lines
    all_read = record { rest = going.tail; spells = going.spells; no_feed = going.no_feed; stay = going.stay }

    -- a read failed
    pub read_fails : (left'' : Option (List ℕ)) → Keeps left' left'' → Talked desks_told disks_tell users old new session left left'' written written' LinkFault
    read_fails left'' keeps = record {
      read = going.read;
      lines = going.lines;
      bytes = going.bytes;
      consumed = Consumes-kept left left' left'' going.read going.consumed keeps;
      within = omega (arith, going.count);
      ends = inl (all_read, going.wrote);
      exchanges = going.exchanges;
    }

    -- nothing is left
    pub at_the_end : (left'' : Option (List ℕ)) → 0 < rest → Consumes left' left'' [] → IsAtEnd left'' → Talked desks_told disks_tell users old new session left left'' written written' End
    at_the_end left'' some none at_end = record {
      read = going.read;
      lines = going.lines;
      bytes = going.bytes;
      consumed = subst (Consumes left left'') (append-nil going.read) (Consumes-trans left left' left'' going.read [] going.consumed none);
      within = omega (arith, going.count);
      ends = (all_read, omega (arith, going.count, some), at_end, going.wrote);
      exchanges = going.exchanges;
    }

    -- the most bytes were read
    pub most_were_read : rest ≡ 0 → Talked desks_told disks_tell users old new session left left' written written' Long
    most_were_read none = record {
      read = going.read;
      lines = going.lines;
      bytes = going.bytes;
      consumed = going.consumed;
      within = omega (arith, going.count);
      ends = (all_read, omega (arith, going.count, none), going.wrote);
      exchanges = going.exchanges;
    }

    module _ (piece : List ℕ) (left'' : Option (List ℕ)) (took : Consumes left' left'' piece) (new' : Desks) (session' : SessionValue) (written'' : Option (List ℕ)) (feed' : FeedState) where
      consumed' : Consumes left left'' (going.read ++ piece)
      consumed' = Consumes-trans left left' left'' going.read piece going.consumed took

      module _ (result : Option Cause) (answers : AnswersPiece desks_told disks_tell users going.tail piece new session written' result new' session' written'' feed') where
        abbrev lines' : List (List ℕ)
        lines' = going.lines ++ answers.lines

        abbrev bytes' : List ℕ
        bytes' = going.bytes ++ answers.bytes

        spells' : Spells (going.read ++ piece) lines' answers.rest
        spells' = spells_both going.read piece going.lines answers.lines going.tail answers.rest going.spells answers.spells

        exchanges' : Exchanges desks_told disks_tell users lines' old at_first bytes' new' session'
        exchanges' = exchanges_both desks_told disks_tell users going.lines answers.lines old at_first going.bytes answers.bytes new session new' session' going.exchanges answers.exchanges

        wrote' : Appends written' written'' answers.bytes → Appends written written'' (greeting ++ bytes')
        wrote' more = subst (Appends written written'') (append_assoc greeting going.bytes answers.bytes) (Appends-trans written written' written'' (greeting ++ going.bytes) answers.bytes going.wrote more)

        -- the lines of a piece were answered
        pub goes_on : result ≡ None → length piece ≤ rest → Going new' session' left'' written'' feed' (rest - length piece)
        goes_on none within =
            let ends : PieceEnds answers.lines answers.bytes answers.rest written' None written'' feed' = subst (λ (r : Option Cause). PieceEnds answers.lines answers.bytes answers.rest written' r written'' feed') none answers.ends in
            record {
              read = going.read ++ piece;
              lines = lines';
              bytes = bytes';
              tail = answers.rest;
              consumed = consumed';
              count = omega (arith, going.count, length-append going.read piece, within);
              spells = spells';
              no_feed = ends.1;
              holds = ends.2;
              stay = none_both going.lines answers.lines going.stay ends.0;
              exchanges = exchanges';
              wrote = wrote' ends.3;
            }

        -- and the connection ended with one
        pub ends_with : (cause : Cause) → result ≡ Some cause → length piece ≤ rest → Talked desks_told disks_tell users old new' session' left left'' written written'' cause
        ends_with cause is_cause fits = by_cause cause (subst (λ (r : Option Cause). PieceEnds answers.lines answers.bytes answers.rest written' r written'' feed') is_cause answers.ends)
          where
            within' : length (going.read ++ piece) ≤ MOST_READ
            within' = omega (arith, going.count, length-append going.read piece, fits)

            by_cause : (cause : Cause) → PieceEnds answers.lines answers.bytes answers.rest written' (Some cause) written'' feed' → Talked desks_told disks_tell users old new' session' left left'' written written'' cause
            by_cause Left ends = record {
              read = going.read ++ piece;
              lines = lines';
              bytes = bytes';
              consumed = consumed';
              within = within';
              ends = (last_both going.lines answers.lines going.stay ends.0, (answers.rest, spells'), wrote' ends.1);
              exchanges = exchanges';
            }
            by_cause LinkFault ends = record {
              read = going.read ++ piece;
              lines = lines';
              bytes = bytes';
              consumed = consumed';
              within = within';
              ends = inr (some_both going.lines answers.lines going.stay ends.0, (answers.rest, spells'), subst (λ bytes. CutShort bytes written written'') (append_assoc greeting going.bytes answers.bytes) (cut_behind written written' written'' (greeting ++ going.bytes) answers.bytes going.wrote ends.1));
              exchanges = exchanges';
            }
            by_cause End ends = absurd ends
            by_cause Long ends = absurd ends

    -- a read gave the front of a buffer, and the lines that end in it were answered
    module _ (users' : List ℕ → Bool) (same_users : users' ≡ users) (count : ℕ) (into more : List ℕ) (fits : count ≤ length into) (within : count ≤ rest) (left_read left'' : Option (List ℕ)) (took : Consumes left' left_read (take count into)) (same_left : left'' ≡ left_read) (written_read : Option (List ℕ)) (beside : written_read ≡ written') (result : Option Cause) (new' : Desks) (session' : SessionValue) (written'' : Option (List ℕ)) (feed' : FeedState) (answers : AnswersPiece desks_told disks_tell users' going.tail (take count (into ++ more)) new session written_read result new' session' written'' feed') where
      took' : Consumes left' left'' (take count into)
      took' = subst (λ (l : Option (List ℕ)). Consumes left' l (take count into)) (sym same_left) took

      answers' : AnswersPiece desks_told disks_tell users going.tail (take count into) new session written' result new' session' written'' feed'
      answers' =
          subst (λ (u : List ℕ → Bool). AnswersPiece desks_told disks_tell u going.tail (take count into) new session written' result new' session' written'' feed') same_users
          (subst (λ (w : Option (List ℕ)). AnswersPiece desks_told disks_tell users' going.tail (take count into) new session w result new' session' written'' feed') beside
          (subst (λ piece. AnswersPiece desks_told disks_tell users' going.tail piece new session written_read result new' session' written'' feed') (take-append-le count into more fits) answers))

      long : length (take count into) ≡ count
      long = length-take-le count into fits

      pub read_goes_on : result ≡ None → Going new' session' left'' written'' feed' (rest - count)
      read_goes_on none = subst (λ n. Going new' session' left'' written'' feed' (rest - n)) long (goes_on (take count into) left'' took' new' session' written'' feed' result answers' none (omega (arith, long, within)))

      pub read_ends : (cause : Cause) → result ≡ Some cause → Talked desks_told disks_tell users old new' session' left left'' written written'' cause
      read_ends cause is_cause = ends_with (take count into) left'' took' new' session' written'' feed' result answers' cause is_cause (omega (arith, long, within))
