-- What a line feed shows.
use Rattle.std.specs.Prelude.{◌≡◌, ℕ, ◌<◌, ◌≤◌, false, ◌||◌, ◌==◌, List, length, MatchBool}
use Rattle.pc_wire.specs.Lines.{has_feed, without_return}
use Rattle.pc_wire.specs.LineFeed.{FeedState}
use Rattle.pc_wire.specs.declared.line_feed.Next.{Next}
use Rattle.pc_wire.specs.declared.line_feed.Next.TheVariants.{Line, More, TooLong}

-- this line is shown, or that it has more bytes than the limit
abbrev pub ShowsLine : ℕ → List ℕ → Next → Type 0
ShowsLine limit line (Line bytes) = (bytes.now ≡ line) × (length line ≤ limit) × (has_feed line ≡ false)
ShowsLine limit line TooLong = limit < length line
ShowsLine limit line More = ⊥

-- the line that waits is shown, or that none does
abbrev pub ShowsNext : FeedState → Next → Type 0
ShowsNext state shown =
    MatchBool state.is_whole (ShowsLine state.limit (without_return state.text) shown) (shown ≡ More)

-- what came of the line that hasn't ended is shown, or that nothing did or that a whole line waits
abbrev pub ShowsLast : FeedState → Next → Type 0
ShowsLast state shown =
    MatchBool (state.is_whole || length state.text == 0) (shown ≡ More) (ShowsLine state.limit state.text shown)
