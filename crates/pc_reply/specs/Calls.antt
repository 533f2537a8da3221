-- Calls on a reply feed, one after another, and what they tell of one reply.
use Rattle.std.specs.Prelude.{◌≡◌, ℕ, ◌<◌, List, [], ◌∷◌, ◌++◌, length, drop, Result, Ok, Err}
use Rattle.pc_base.specs.declared.failure.Memory.{Memory}
use Rattle.pc_wire.specs.LineFeed.{Feeds}
use Rattle.pc_reply.specs.ReplyFeed.{ReplyState, begun, wanting, Nexts}
use Rattle.pc_reply.specs.declared.reply.Reply.{Reply}
use Rattle.pc_reply.specs.declared.reply_feed.ReplyNext.{ReplyNext}
use Rattle.pc_reply.specs.declared.reply_feed.ReplyNext.TheVariants.{Whole, More, Bad}

-- `feed` with a piece, or `next`
pub data Call : Type 0 where
  feed : List ℕ → Call
  next : Call

-- a call of `feed` takes so many bytes of the piece
abbrev pub FeedsReply : ReplyState → ReplyState → List ℕ → ℕ → Type 0
FeedsReply old new piece count =
    Feeds old.line new.line piece count × (new ≡ record old { line = new.line })

-- calls on a feed to which this text comes: each piece is what comes next, as far as it goes, and each `next` says `More`;
-- the feed in the end, and what is left of the text
abbrev pub Calls : ReplyState → List ℕ → List Call → ReplyState → List ℕ → Type 0
Calls old text [] new left = (new ≡ old) × (left ≡ text)
Calls old text (feed piece ∷ calls) new left =
    (middle : ReplyState) × ((count : ℕ) × ((beyond : List ℕ) × ((text ≡ piece ++ beyond) × FeedsReply old middle piece count × Calls middle (drop count text) calls new left)))
Calls old text (next ∷ calls) new left =
    (middle : ReplyState) × (Nexts old old.progress middle (Ok More) × Calls middle text calls new left)

-- what `next` answers where these bytes of the reply are still to come: the reply where none is, and else `More`; or memory
-- is wanted
abbrev pub AnswersFor : Reply → List ℕ → ReplyState → Result ReplyNext Memory → Type 0
AnswersFor reply left new (Ok (Whole other)) = (other ≡ reply) × (left ≡ []) × (new ≡ begun)
AnswersFor reply left new (Ok More) = 0 < length left
AnswersFor reply left new (Ok (Bad place)) = ⊥
AnswersFor reply left new (Err memory) = new.progress ≡ wanting

-- the reply is read: of the text some bytes of it are left and all that follows it, and `next` answers for these bytes
abbrev pub Reads : Reply → List ℕ → ReplyState → List ℕ → Type 0
Reads reply rest state left =
    (own : List ℕ) × ((left ≡ own ++ rest) × ((new : ReplyState) (result : Result ReplyNext Memory) → Nexts state state.progress new result → AnswersFor reply own new result))
