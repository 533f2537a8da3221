-- What a reply feed tells of the bytes that came since the last reply.
use Rattle.std.specs.Prelude.{◌≡◌, ℕ, ◌≤◌, ◌<◌, ◌==◌, true, false, IsTrue, List, [], ◌∷◌, ◌++◌, ◌⊎◌, length, if◌then◌else◌, Result, Ok, Err}
use Rattle.std.specs.List.{AllZip}
use Rattle.pc_wire.specs.Lines.{has_feed, before_feed, without_return, AreSpellings}
use Rattle.pc_wire.specs.LineFeed.{fed}
use Rattle.pc_wire.specs.Body.{Carries}
use Rattle.pc_wire.specs.BodyFeed.{all_fit}
use Rattle.pc_reply.specs.Head.{IsHead, has_list}
use Rattle.pc_reply.specs.Reply.{IsReply, list_fits}
use Rattle.pc_reply.specs.ReplyFeed.{Progress, no_line, listing, stopped, wanting, ReplyState, begun}
use Rattle.pc_base.specs.declared.failure.Memory.{Memory}
use Rattle.pc_reply.specs.declared.reply.Reply.{Reply}
use Rattle.pc_reply.specs.declared.reply_feed.ReplyNext.{ReplyNext}
use Rattle.pc_reply.specs.declared.reply_feed.ReplyNext.TheVariants.{Whole, More, Bad}

-- the most bytes of the line behind these: the head comes first
abbrev pub limit_behind : List ℕ → ℕ
limit_behind whole = if length whole == 0 then 512 else 1000

-- these bytes are whole lines with which some reply begins, and it goes on
pub record BeginsReply (whole : List ℕ) : Type 0 where
  pub lines : List (List ℕ)
  pub spelled : AreSpellings whole lines
  pub reply : Reply
  pub rest : List ℕ
  pub goes_on : 0 < length rest
  pub is : IsReply reply (whole ++ rest)

-- no reply is whole yet: some reply begins with the whole lines, and the line that hasn't ended isn't past its limit
pub record GoesOn (bytes : List ℕ) : Type 0 where
  pub whole : List ℕ
  pub part : List ℕ
  pub split : bytes ≡ whole ++ part
  pub unended : has_feed part ≡ false
  pub begins : BeginsReply whole
  pub short : length (without_return part) ≤ limit_behind whole

-- at most one line: no LF but at the end
abbrev pub IsOneLine : List ℕ → Type 0
IsOneLine part = (has_feed part ≡ false) ⊎ (part ≡ before_feed part ++ 10 ∷ [])

-- no reply begins with the bytes; the line that begins at the place is the first that fits none, and it has ended or
-- passed its limit
pub record FitsNone (bytes : List ℕ) (place : ℕ) : Type 0 where
  pub whole : List ℕ
  pub part : List ℕ
  pub split : bytes ≡ whole ++ part
  pub at : place ≡ length whole
  pub begins : BeginsReply whole
  pub line : IsOneLine part
  pub over : (has_feed part ≡ true) ⊎ (limit_behind whole < length (without_return part))
  pub none : (reply : Reply) (rest : List ℕ) → ¬ IsReply reply (bytes ++ rest)

-- what is told of the bytes that came since the last reply
abbrev pub IsTold : List ℕ → ReplyNext → Type 0
IsTold bytes (Whole reply) = IsReply reply bytes
IsTold bytes More = GoesOn bytes
IsTold bytes (Bad place) = FitsNone bytes place

-- what the lines taken make: a head with a list, and lines of the list
abbrev pub Makes : Progress → List (List ℕ) → Type 0
Makes no_line lines = lines ≡ []
Makes (listing head contents) lines =
    (first : List ℕ) × ((sent : List (List ℕ)) × ((lines ≡ first ∷ sent) × IsHead head first × (length first ≤ 512) × (has_list head ≡ true) × AllZip Carries sent contents × IsTrue (all_fit 1000 sent) × IsTrue (list_fits contents)))
Makes (stopped place) lines = ⊥
Makes wanting lines = ⊥

-- these bytes came into the feed since the last reply, and it goes on
pub record HasCome (state : ReplyState) (bytes : List ℕ) : Type 0 where
  pub lines : List (List ℕ)
  pub whole : List ℕ
  pub part : List ℕ
  pub split : bytes ≡ whole ++ part
  pub spelled : AreSpellings whole lines
  pub makes : Makes state.progress lines
  pub place : state.place ≡ length whole
  pub line : state.line ≡ fed (limit_behind whole) part
  pub one : IsOneLine part

-- what a call of `next` tells of the bytes that came, and what the feed holds then
abbrev pub Tells : List ℕ → ReplyState → Result ReplyNext Memory → Type 0
Tells bytes new (Ok (Whole reply)) = IsReply reply bytes × (new ≡ begun)
Tells bytes new (Ok More) = GoesOn bytes × HasCome new bytes
Tells bytes new (Ok (Bad place)) = FitsNone bytes place × (new.progress ≡ stopped place)
Tells bytes new (Err memory) = new.progress ≡ wanting
