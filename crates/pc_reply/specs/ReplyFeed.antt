-- What a reply feed holds, and how lines change it.
use Rattle.std.specs.Prelude.{◌≡◌, ℕ, ◌+◌, ⊤, Bool, true, false, nat_lt, IsTrue, MatchBool, List, [], ◌∷◌, ◌++◌, length, Result, Ok, Err}
use Rattle.pc_base.specs.declared.failure.Memory.{Memory}
use Rattle.pc_wire.specs.Lines.{without_return}
use Rattle.pc_wire.specs.LineFeed.{FeedState, fed}
use Rattle.pc_wire.specs.BodyFeed.{is_dot, content_of}
use Rattle.pc_reply.specs.Head.{IsHead, has_list}
use Rattle.pc_reply.specs.Reply.{list_fits}
use Rattle.pc_reply.specs.declared.head.Head.{Head}
use Rattle.pc_reply.specs.declared.reply_feed.ReplyNext.{ReplyNext}
use Rattle.pc_reply.specs.declared.reply_feed.ReplyNext.TheVariants.{Whole, More, Bad}

-- what the lines make that were taken since the last reply
pub data Progress : Type 0 where
  no_line : Progress
  -- a head with a list, and lines of the list
  listing : Head → List (List ℕ) → Progress
  -- the line at this place fits no reply
  stopped : ℕ → Progress
  -- memory was wanted for a line
  wanting : Progress

-- lines are still taken
abbrev pub IsGoing : Progress → Type 0
IsGoing no_line = ⊤
IsGoing (listing head lines) = ⊤
IsGoing (stopped place) = ⊥
IsGoing wanting = ⊥

pub record ReplyState : Type 0 where
  pub progress : Progress
  -- how many bytes the lines have that were taken since the last reply
  pub place : ℕ
  -- the line that comes
  pub line : FeedState

-- a feed of which nothing came since the last reply
abbrev pub begun : ReplyState
begun = record { progress = no_line; place = 0; line = fed 512 [] }

-- one more line was taken, and more follow
abbrev pub moved : ReplyState → Progress → ReplyState
moved old progress =
    record { progress = progress; place = old.place + (length old.line.text + 1); line = fed 1000 [] }

-- the line that comes fits no reply, for good
abbrev pub Stops : ReplyState → ReplyState → ReplyNext → Type 0
Stops old new next = (next ≡ Bad old.place) × (new ≡ record old { progress = stopped old.place })

-- the first line of a reply is taken
abbrev pub TakesHead : ReplyState → List ℕ → ReplyState → Result ReplyNext Memory → Type 0
TakesHead old line new (Ok (Whole reply)) =
    IsHead reply.head line × (has_list reply.head ≡ false) × (reply.lines ≡ []) × (new ≡ begun)
TakesHead old line new (Ok More) =
    (head : Head) × (IsHead head line × (has_list head ≡ true) × (new ≡ moved old (listing head [])))
TakesHead old line new (Ok (Bad place)) = ((head : Head) → ¬ IsHead head line) × Stops old new (Bad place)
TakesHead old line new (Err memory) = ⊥

-- a line is taken behind this head and these lines of its list: the dot, or one that is kept, or one too many
abbrev pub TakesItem : ReplyState → Head → List (List ℕ) → List ℕ → ReplyState → Result ReplyNext Memory → Type 0
TakesItem old head lines line new (Ok (Whole reply)) =
    IsTrue (is_dot line) × (reply ≡ record { head = head; lines = lines }) × (new ≡ begun)
TakesItem old head lines line new (Ok More) =
    (is_dot line ≡ false) × IsTrue (list_fits (lines ++ content_of line ∷ [])) × (new ≡ moved old (listing head (lines ++ content_of line ∷ [])))
TakesItem old head lines line new (Ok (Bad place)) =
    (is_dot line ≡ false) × (list_fits (lines ++ content_of line ∷ []) ≡ false) × Stops old new (Bad place)
TakesItem old head lines line new (Err memory) =
    (is_dot line ≡ false) × IsTrue (list_fits (lines ++ content_of line ∷ [])) × (new ≡ record old { progress = wanting })

-- a whole line within its limit is taken
abbrev pub TakesWhole : ReplyState → Progress → List ℕ → ReplyState → Result ReplyNext Memory → Type 0
TakesWhole old no_line line new result = TakesHead old line new result
TakesWhole old (listing head lines) line new result = TakesItem old head lines line new result
TakesWhole old (stopped place) line new result = ⊥
TakesWhole old wanting line new result = ⊥

-- the line that comes is past its limit, whole or not
abbrev pub is_past : FeedState → Bool
is_past line = nat_lt line.limit (length (without_return line.text))

-- the next line is taken if it's whole; past its limit it fits no reply
abbrev pub TakesNext : ReplyState → ReplyState → Result ReplyNext Memory → Type 0
TakesNext old new result =
    MatchBool (is_past old.line) ((next : ReplyNext) × ((result ≡ Ok next) × Stops old new next)) (MatchBool old.line.is_whole (TakesWhole old old.progress (without_return old.line.text) new result) ((result ≡ Ok More) × (new ≡ old)))

-- a call of `next`: what stopped a feed stays
abbrev pub Nexts : ReplyState → Progress → ReplyState → Result ReplyNext Memory → Type 0
Nexts old no_line new result = TakesNext old new result
Nexts old (listing head lines) new result = TakesNext old new result
Nexts old (stopped place) new result = (result ≡ Ok (Bad place)) × (new ≡ old)
Nexts old wanting new result = (result ≡ Err (record {})) × (new ≡ old)
