-- What one line does to a reply feed.
use Rattle.std.proofs.Common.{◌≡◌, ℕ, ◌+◌, ◌≤◌, Bool, true, false, nat_le, IsTrue, Ok, List, [], ◌∷◌, ◌++◌, length, refl, sym, subst, arith, length-append, Bor}
use Rattle.std.specs.Prelude.{MatchBool}
use Rattle.std.proofs.lemmas.Bool.Decides.{nat_tests}
use Rattle.pc_base.specs.Line.{is_line}
use Rattle.pc_wire.specs.Lines.{has_feed, without_return}
use Rattle.pc_wire.specs.LineFeed.{FeedState}
use Rattle.pc_wire.specs.Next.{ShowsLine, ShowsNext}
use Rattle.pc_wire.specs.declared.line_feed.Next.TheVariants.{Line, More}
use Rattle.pc_wire.specs.BodyFeed.{content_of}
use Rattle.pc_reply.specs.declared.reply_feed.Stage.{Stage}
use Rattle.pc_reply.specs.declared.reply_feed.Stage.TheVariants.{Begun, Listing, Stopped, Wanting}
use Rattle.pc_reply.specs.declared.reply_feed.Step.{Step}
use Rattle.pc_reply.specs.declared.reply_feed.Step.TheVariants.{On}
use Rattle.pc_reply.specs.Steps.{lines_in, IsCounted, StageStep}

line_fits : (limit : ℕ) (bytes line : List ℕ) → limit ≤ 1000 → bytes ≡ line → length line ≤ limit → has_feed line ≡ false → IsTrue (is_line bytes)
line_fits limit bytes line small is short unended =
    let few : nat_le (length line) 1000 ≡ true = grind (arith, nat_tests) in
    rw (is, few, unended) refl

-- a line that is shown within a limit is one
pub shown_is_line : (state : FeedState) (bytes : Bor (List ℕ)) → state.limit ≤ 1000 → ShowsNext state (Line bytes) → IsTrue (is_line bytes.now)
shown_is_line state bytes small shows = by_whole state.is_whole shows
  where
    by_whole : (b : Bool) → MatchBool b (ShowsLine state.limit (without_return state.text) (Line bytes)) (Line bytes ≡ More) → IsTrue (is_line bytes.now)
    by_whole true line = line_fits state.limit bytes.now (without_return state.text) small line.0 line.1 line.2
    by_whole false none = absurd (cc)

-- a list grows by one line
counted_by : (stage next : Stage) (line : List ℕ) (place count : ℕ) → IsCounted stage place → StageStep stage line (Ok (On next)) → count ≤ 1002 → IsCounted next (place + (count + 1))
counted_by Begun next line place count counted (head, (is, lists, on)) few =
    let P : Stage → Type 0 = λ stage. IsCounted stage (place + (count + 1)) in
    subst P (sym on) ((refl, refl), omega (arith, counted))
counted_by (Listing head body) next line place count counted (apart, fits, on) few =
    let P : Stage → Type 0 = λ stage. IsCounted stage (place + (count + 1)) in
    let more : length (lines_in body.so_far ++ content_of line ∷ []) ≡ length (lines_in body.so_far) + 1 = length-append (lines_in body.so_far) (content_of line ∷ []) in
    subst P (sym on) ((refl, fits), omega (arith, counted.1))
counted_by (Stopped at) next line place count counted step few = absurd step
counted_by Wanting next line place count counted step few = absurd step

pub counted_on : (old stage next : Stage) (step : Step) (line : List ℕ) (place count : ℕ) → stage ≡ old → IsCounted old place → StageStep stage line (Ok step) → step ≡ On next → count ≤ 1002 → IsCounted next (place + (count + 1))
counted_on old stage next step line place count same counted steps on few =
    let P : Stage → Type 0 = λ stage. IsCounted stage place in
    let Q : Step → Type 0 = λ step. StageStep stage line (Ok step) in
    counted_by stage next line place count (subst P (sym same) counted) (subst Q on steps) few
