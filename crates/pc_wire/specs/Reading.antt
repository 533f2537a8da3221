-- The parts of a line reader: what its feed holds, and how bytes reach it.
use Rattle.std.specs.Prelude.{◌≡◌, ℕ, ◌+◌, ◌<◌, ⊤, Bool, true, false, List, [], ◌∷◌, ◌++◌, length, take, drop, Option, Result, Ok, Err}
use Rattle.std.specs.Io.KnownBytes.{Consumes, Keeps, IsAtEnd}
use Rattle.pc_base.specs.declared.failure.Failed.{Failed}
use Rattle.pc_wire.specs.Lines.{has_feed, without_return}
use Rattle.pc_wire.specs.LineFeed.{FeedState, fed, IsOver}
use Rattle.pc_wire.specs.Reader.{Waiting, ReaderState, no_line, waiting, IfTold, TakesLine}
use Rattle.pc_wire.specs.declared.fetched.Fetched.{Fetched}
use Rattle.pc_wire.specs.declared.fetched.Fetched.TheVariants.{Waits, End, Overlong}
use Rattle.pc_wire.specs.declared.fetched.Held.{Held}
use Rattle.pc_wire.specs.declared.fetched.Held.TheVariants.{Begun, Whole, Last, Ahead}

-- the line that waits in a feed, or at the front of the buffer
abbrev pub waiting_in : Held → FeedState → List ℕ → Waiting
waiting_in Begun feed buffer = no_line
waiting_in Whole feed buffer = waiting feed.limit (without_return feed.text)
waiting_in Last feed buffer = waiting feed.limit feed.text
waiting_in (Ahead stop) feed buffer = waiting feed.limit (without_return (take stop buffer))

-- what was read and isn't used yet, without the line that waits
abbrev pub ahead_in : Held → FeedState → List ℕ → List ℕ
ahead_in Begun feed buffer = feed.text ++ buffer
ahead_in Whole feed buffer = buffer
ahead_in Last feed buffer = buffer
ahead_in (Ahead stop) feed buffer = drop (stop + 1) buffer

-- what a reader of these parts is
abbrev pub state_of : Held → FeedState → List ℕ → ReaderState
state_of held feed buffer =
    record { limit = feed.limit; ahead = ahead_in held feed buffer; waits = waiting_in held feed buffer }

-- the feed holds what is said of it
abbrev pub IsHeld : Held → FeedState → Type 0
IsHeld Begun feed = feed ≡ fed feed.limit feed.text
IsHeld Whole feed = feed.is_whole ≡ true
IsHeld Last feed = (feed.is_whole ≡ false) × (0 < length feed.text)
IsHeld (Ahead stop) feed = feed ≡ fed feed.limit []

-- bytes up to a place, without LF, and the LF at that place are at the front of the buffer
abbrev pub LineStops : ℕ → List ℕ → Type 0
LineStops stop buffer =
    (stop < length buffer) × (has_feed (take stop buffer) ≡ false) × (take (stop + 1) buffer ≡ take stop buffer ++ 10 ∷ [])

-- a line that is said to lie in the buffer does
abbrev pub LiesAhead : Held → List ℕ → Type 0
LiesAhead Begun buffer = ⊤
LiesAhead Whole buffer = ⊤
LiesAhead Last buffer = ⊤
LiesAhead (Ahead stop) buffer = LineStops stop buffer

-- a call of `fill` leaves these bytes in the buffer, and loses none
abbrev pub Fills : List ℕ → Option (List ℕ) → Option (List ℕ) → Result Bool Failed → Type 0
Fills bytes before after (Ok true) = Keeps before after × (0 < length bytes)
Fills bytes before after (Ok false) = Keeps before after × (bytes ≡ []) × IsAtEnd after
Fills bytes before after (Err e) = Keeps before after

-- bytes without LF were taken, and the feed holds them after those that it held
pub record TakesOpen (limit : ℕ) (begun : List ℕ) (feed : FeedState) (before after : Option (List ℕ)) : Type 0 where
  pub taken : List ℕ
  pub no_feed : has_feed (begun ++ taken) ≡ false
  pub consumed : Consumes before after taken
  pub held : feed ≡ fed limit (begun ++ taken)

-- bytes up to an LF, past the limit, or to the end went into a feed that held the begun ones
abbrev pub Seeks : ℕ → List ℕ → FeedState → Option (List ℕ) → Option (List ℕ) → Result Fetched Failed → Type 0
Seeks limit begun feed before after (Ok Waits) =
    (feed.is_whole ≡ true) × (feed.limit ≡ limit) × ((line : List ℕ) × ((waiting limit (without_return feed.text) ≡ waiting limit line) × IfTold before after (λ old new. TakesLine line (begun ++ old) new)))
Seeks limit begun feed before after (Ok End) = TakesOpen limit begun feed before after × IsAtEnd after
Seeks limit begun feed before after (Ok Overlong) = TakesOpen limit begun feed before after × IsOver feed
Seeks limit begun feed before after (Err e) = TakesOpen limit begun feed before after
