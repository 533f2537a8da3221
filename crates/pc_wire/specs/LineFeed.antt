-- What a line feed holds, and how bytes change it.
use Rattle.std.specs.Prelude.{◌≡◌, ℕ, ◌+◌, ◌<◌, Bool, true, false, List, [], ◌∷◌, ◌++◌, length, take}
use Rattle.std.specs.Io.BufRead.{take_through}
use Rattle.pc_wire.specs.Lines.{has_feed, before_feed, without_return}

pub record FeedState : Type 0 where
  -- the most bytes of a line
  pub limit : ℕ
  -- the bytes of the line so far, cut two bytes past the limit
  pub text : List ℕ
  -- the LF that ends the line has come
  pub is_whole : Bool

-- what a feed holds after these bytes since the last line was let go
abbrev pub fed : ℕ → List ℕ → FeedState
fed limit bytes =
    record { limit = limit; text = take (limit + 2) (before_feed bytes); is_whole = has_feed bytes }

-- what a feed holds after a piece, where no whole line waits
abbrev pub with_piece : FeedState → List ℕ → FeedState
with_piece old piece = record {
  limit = old.limit;
  text = take (old.limit + 2) (old.text ++ before_feed piece);
  is_whole = has_feed piece;
}

-- a call of `feed` takes so many bytes of the piece: none where a whole line waits, else those up to and with the first LF
pub record Feeds (old new : FeedState) (piece : List ℕ) (count : ℕ) : Type 0 where
  pub waits : old.is_whole ≡ true → (count ≡ 0) × (new ≡ old)
  pub takes : old.is_whole ≡ false → (count ≡ length (take_through 10 piece)) × (new ≡ with_piece old piece)

-- calls of `feed` with these pieces, one after another
abbrev pub FeedsAll : FeedState → FeedState → List (List ℕ) → Type 0
FeedsAll old new [] = new ≡ old
FeedsAll old new (piece ∷ pieces) =
    (middle : FeedState) × ((count : ℕ) × (Feeds old middle piece count × FeedsAll middle new pieces))

-- the line that hasn't ended is past the limit already
abbrev pub IsOver : FeedState → Type 0
IsOver state = (state.is_whole ≡ false) × (state.limit < length (without_return state.text))
