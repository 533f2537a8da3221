-- The parts of a connection: a line that waits in a feed, and the lines that end in a piece.
use Rattle.std.specs.Prelude.{◌≡◌, ◌⊎◌, ℕ, Bool, false, List, [], ◌++◌, Option, None, Some, Result, Ok, Err, MatchBool}
use Rattle.std.specs.Io.KnownBytes.{Appends}
use Rattle.pc_base.specs.Stream.{AppendsFront}
use Rattle.pc_base.specs.declared.refusal.Refusal.{Refusal}
use Rattle.pc_reply.specs.Reply.{written_reply}
use Rattle.pc_reply.specs.declared.reply.Reply.{Reply}
use Rattle.pc_request.specs.Request.{IsRequest}
use Rattle.pc_request.specs.declared.request.Request.{Request}
use Rattle.pc_wire.specs.LineFeed.{FeedState, fed}
use Rattle.pc_wire.specs.Lines.{has_feed}
use Rattle.pc_wire.specs.Next.{ShowsLine, ShowsNext}
use Rattle.pc_wire.specs.declared.line_feed.Next.{Next}
use Rattle.pc_session.specs.declared.conversing.Cause.{Cause}
use Rattle.pc_session.specs.declared.conversing.Cause.TheVariants.{Left, End, LinkFault, Long}
use Rattle.pc_session.specs.Conversation.{CutShort, Exchange, Exchanges, LastLeaves, Leaves, NoneLeaves, Spells, refusal_of_line}
use Rattle.pc_session.specs.Desks.{Desks}
use Rattle.pc_session.specs.Turn.{SessionValue}

-- a line asks for a request and no other, or is refused
abbrev pub AsksFor : List ℕ → Result Request Refusal → Type 0
AsksFor line (Ok request) = (refusal_of_line line ≡ None) × IsRequest request line × ((other : Request) → IsRequest other line → other ≡ request)
AsksFor line (Err why) = refusal_of_line line ≡ Some why

-- a line was answered with this reply, and the connection goes on, or ends
abbrev pub LineEnds : List ℕ → List ℕ → Option (List ℕ) → Option Cause → Option (List ℕ) → Type 0
LineEnds line bytes written None written' = (Leaves line → ⊥) × Appends written written' bytes
LineEnds line bytes written (Some Left) written' = Leaves line × Appends written written' bytes
LineEnds line bytes written (Some LinkFault) written' = ((Leaves line → ⊥) ⊎ Leaves line) × AppendsFront written written' bytes
LineEnds line bytes written (Some End) written' = ⊥
LineEnds line bytes written (Some Long) written' = ⊥

pub record AnswersLine (desks_told disks_tell : Type 0) (users : List ℕ → Bool) (line : List ℕ) (old : Desks) (s : SessionValue) (written : Option (List ℕ)) (result : Option Cause) (new : Desks) (after : SessionValue) (written' : Option (List ℕ)) : Type 0 where
  pub reply : Reply
  pub exchange : Exchange desks_told disks_tell users line old s reply new after
  pub ends : LineEnds line (written_reply reply) written result written'

-- the line that waits in a feed
abbrev pub Waits : FeedState → List ℕ → Type 0
Waits feed line = (shown : Next) → ShowsNext feed shown → ShowsLine 512 line shown

-- it is answered and let go; where none waits, nothing changes
abbrev pub AnswersNext : (desks_told disks_tell : Type 0) → (List ℕ → Bool) → FeedState → Desks → SessionValue → Option (List ℕ) → Option Cause → Desks → SessionValue → Option (List ℕ) → FeedState → Type 0
AnswersNext desks_told disks_tell users feed old s written result new after written' feed' =
    MatchBool feed.is_whole
    (((line : List ℕ) → Waits feed line → AnswersLine desks_told disks_tell users line old s written result new after written') × (feed' ≡ fed 512 []))
    ((result ≡ None) × (new ≡ old) × (after ≡ s) × (written' ≡ written) × (feed' ≡ feed))

-- the lines of a piece were answered, and the connection goes on with what the feed then holds, or ends
abbrev pub PieceEnds : List (List ℕ) → List ℕ → List ℕ → Option (List ℕ) → Option Cause → Option (List ℕ) → FeedState → Type 0
PieceEnds lines bytes rest written None written' feed' = NoneLeaves lines × (has_feed rest ≡ false) × (feed' ≡ fed 512 rest) × Appends written written' bytes
PieceEnds lines bytes rest written (Some Left) written' feed' = LastLeaves lines × Appends written written' bytes
PieceEnds lines bytes rest written (Some LinkFault) written' feed' = (NoneLeaves lines ⊎ LastLeaves lines) × CutShort bytes written written'
PieceEnds lines bytes rest written (Some End) written' feed' = ⊥
PieceEnds lines bytes rest written (Some Long) written' feed' = ⊥

pub record AnswersPiece (desks_told disks_tell : Type 0) (users : List ℕ → Bool) (begun piece : List ℕ) (old : Desks) (s : SessionValue) (written : Option (List ℕ)) (result : Option Cause) (new : Desks) (after : SessionValue) (written' : Option (List ℕ)) (feed' : FeedState) : Type 0 where
  pub lines : List (List ℕ)
  pub bytes : List ℕ
  pub rest : List ℕ
  pub spells : Spells (begun ++ piece) lines rest
  pub exchanges : Exchanges desks_told disks_tell users lines old s bytes new after
  pub ends : PieceEnds lines bytes rest written result written' feed'
