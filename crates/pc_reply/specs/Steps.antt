-- The parts of a reply feed, and what one line does to them.
use Rattle.std.specs.Prelude.{◌≡◌, ℕ, ◌+◌, ◌*◌, ◌≤◌, ⊤, false, true, IsTrue, List, [], ◌∷◌, ◌++◌, length, Result, Ok, Err}
use Rattle.pc_base.specs.declared.failure.Memory.{Memory}
use Rattle.pc_wire.specs.BodyFeed.{BodyState, is_dot, content_of}
use Rattle.pc_wire.specs.declared.body_feed.BodyStep.{BodyStep}
use Rattle.pc_wire.specs.declared.body_feed.BodyStep.TheVariants as body
use Rattle.pc_reply.specs.Head.{IsHead, has_list}
use Rattle.pc_reply.specs.Reply.{list_fits}
use Rattle.pc_reply.specs.ReplyFeed.{Progress, no_line, listing, stopped, wanting}
use Rattle.pc_reply.specs.declared.head.Head.{Head}
use Rattle.pc_reply.specs.declared.reply_feed.Stage.{Stage}
use Rattle.pc_reply.specs.declared.reply_feed.Stage.TheVariants.{Begun, Listing, Stopped, Wanting}
use Rattle.pc_reply.specs.declared.reply_feed.Step.{Step}
use Rattle.pc_reply.specs.declared.reply_feed.Step.TheVariants.{Whole, On, Bad}

-- what a body feed holds after these lines of a list
abbrev pub holding : List (List ℕ) → BodyState
holding lines =
    record { most_bytes = 4194304; most_lines = 32768; so_far = Ok (body.Whole lines) }

-- the lines that a body feed holds
abbrev pub lines_in : Result BodyStep Memory → List (List ℕ)
lines_in (Ok (body.Whole lines)) = lines
lines_in (Ok body.More) = []
lines_in (Ok body.LineTooLong) = []
lines_in (Ok body.TooLarge) = []
lines_in (Err memory) = []

abbrev pub progress_of : Stage → Progress
progress_of Begun = no_line
progress_of (Listing head body) = listing head (lines_in body.so_far)
progress_of (Stopped place) = stopped place
progress_of Wanting = wanting

-- the lines of a list that can go on
abbrev pub IsHolding : BodyState → Type 0
IsHolding body = (body ≡ holding (lines_in body.so_far)) × IsTrue (list_fits (lines_in body.so_far))

-- the lines taken have a bounded number of bytes
abbrev pub IsCounted : Stage → ℕ → Type 0
IsCounted Begun place = place ≡ 0
IsCounted (Listing head body) place =
    IsHolding body × (place ≤ 1003 * (length (lines_in body.so_far) + 1))
IsCounted (Stopped at) place = ⊤
IsCounted Wanting place = ⊤

-- a line is taken as the first of a reply
abbrev pub HeadStep : List ℕ → Step → Type 0
HeadStep line (Whole reply) =
    IsHead reply.head line × (has_list reply.head ≡ false) × (reply.lines ≡ [])
HeadStep line (On stage) =
    (head : Head) × (IsHead head line × (has_list head ≡ true) × (stage ≡ Listing head (holding [])))
HeadStep line Bad = (head : Head) → ¬ IsHead head line

-- a line is taken behind a head and lines of its list
abbrev pub ItemStep : Head → List (List ℕ) → List ℕ → Result Step Memory → Type 0
ItemStep head lines line (Ok (Whole reply)) =
    IsTrue (is_dot line) × (reply ≡ record { head = head; lines = lines })
ItemStep head lines line (Ok (On stage)) =
    (is_dot line ≡ false) × IsTrue (list_fits (lines ++ content_of line ∷ [])) × (stage ≡ Listing head (holding (lines ++ content_of line ∷ [])))
ItemStep head lines line (Ok Bad) =
    (is_dot line ≡ false) × (list_fits (lines ++ content_of line ∷ []) ≡ false)
ItemStep head lines line (Err memory) =
    (is_dot line ≡ false) × IsTrue (list_fits (lines ++ content_of line ∷ []))

-- a line is taken
abbrev pub StageStep : Stage → List ℕ → Result Step Memory → Type 0
StageStep Begun line (Ok step) = HeadStep line step
StageStep Begun line (Err memory) = ⊥
StageStep (Listing head body) line result = ItemStep head (lines_in body.so_far) line result
StageStep (Stopped place) line result = ⊥
StageStep Wanting line result = ⊥

-- a stage at which lines are taken
abbrev pub TakesLines : Stage → Type 0
TakesLines Begun = ⊤
TakesLines (Listing head body) = IsHolding body
TakesLines (Stopped place) = ⊥
TakesLines Wanting = ⊥
