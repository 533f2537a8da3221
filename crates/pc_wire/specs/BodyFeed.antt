-- What a body feed holds, and how lines change it.
use Rattle.std.specs.Prelude.{◌≡◌, ℕ, Bool, true, false, ◌==◌, ◌&&◌, nat_le, List, [], ◌∷◌, ◌++◌, length, map, Option, Some, None, is_none, Result, Ok, Err, IsTrue, MatchBool, if◌then◌else◌}
use Rattle.std.specs.List.{AllZip, list_any, list_all}
use Rattle.pc_base.specs.Line.{is_line}
use Rattle.pc_base.specs.declared.failure.Memory.{Memory}
use Rattle.pc_wire.specs.Body.{Carries, size_of}
use Rattle.pc_wire.specs.declared.line_feed.Next.{Next}
use Rattle.pc_wire.specs.declared.line_feed.Next.TheVariants.{Line, More as NoLine, TooLong}
use Rattle.pc_wire.specs.declared.body_feed.BodyStep.{BodyStep}
use Rattle.pc_wire.specs.declared.body_feed.BodyStep.TheVariants.{More, Whole, LineTooLong, TooLarge}

-- a line that came, or None where it was past its limit
abbrev pub Sent : Type 0
Sent = Option (List ℕ)

-- the line that a line feed shows; bytes that are no line at any limit count as past it
abbrev pub sent_of : Next → Sent
sent_of (Line bytes) = if is_line bytes.now then Some bytes.now else None
sent_of NoLine = None
sent_of TooLong = None

-- a line that came, by a limit on its bytes
abbrev pub sent_within : ℕ → List ℕ → Sent
sent_within limit line = if nat_le (length line) limit then Some line else None

-- no sent line is past the limit
abbrev pub all_fit : ℕ → List (List ℕ) → Bool
all_fit limit sent = list_all (λ line. nat_le (length line) limit) sent

-- a single dot
abbrev pub is_dot : List ℕ → Bool
is_dot [] = false
is_dot (byte ∷ []) = byte == 46
is_dot (byte ∷ next ∷ bytes) = false

-- the line that ends a body
abbrev pub is_end : Sent → Bool
is_end None = false
is_end (Some line) = is_dot line

-- what a sent line carries: it, without one dot in front
abbrev pub content_of : List ℕ → List ℕ
content_of [] = []
content_of (byte ∷ bytes) = if byte == 46 then bytes else byte ∷ bytes

-- some line was past its limit
abbrev pub has_long : List Sent → Bool
has_long came = list_any is_none came

-- what the lines carry that weren't past their limit
abbrev pub contents : List Sent → List (List ℕ)
contents [] = []
contents (None ∷ came) = contents came
contents (Some line ∷ came) = content_of line ∷ contents came

-- the lines pass neither number
abbrev pub is_within : ℕ → ℕ → List (List ℕ) → Bool
is_within most_bytes most_lines lines = nat_le (size_of lines) most_bytes && nat_le (length lines) most_lines

-- the lines, if they pass neither number
abbrev pub whole_within : ℕ → ℕ → List (List ℕ) → BodyStep
whole_within most_bytes most_lines lines =
    if is_within most_bytes most_lines lines then Whole lines else TooLarge

-- what a dot is answered after these lines
abbrev pub answer_after : ℕ → ℕ → List Sent → BodyStep
answer_after most_bytes most_lines came =
    if has_long came then LineTooLong else whole_within most_bytes most_lines (contents came)

-- what a dot is answered after these sent lines, which carry the other lines, where each line has a limit
abbrev pub answer_within : ℕ → ℕ → ℕ → List (List ℕ) → List (List ℕ) → BodyStep
answer_within most_bytes most_lines limit sent lines =
    if all_fit limit sent then whole_within most_bytes most_lines lines else LineTooLong

-- the size is that of the lines that are kept, if any are
abbrev pub IsSized : Result BodyStep Memory → ℕ → Type 0
IsSized (Ok (Whole lines)) size = size ≡ size_of lines
IsSized (Ok More) size = Unit {0}
IsSized (Ok LineTooLong) size = Unit {0}
IsSized (Ok TooLarge) size = Unit {0}
IsSized (Err memory) size = Unit {0}

-- these are the sent lines that came, and what they carry
abbrev pub CameAs : List Sent → List (List ℕ) → Type 0
CameAs came lines = (sent : List (List ℕ)) × ((came ≡ map Some sent) × AllZip Carries sent lines)

-- the answer to a dot, by what the lines before it carry
abbrev pub IsAnswer : ℕ → ℕ → List Sent → BodyStep → Type 0
IsAnswer most_bytes most_lines came (Whole lines) = CameAs came lines × IsTrue (is_within most_bytes most_lines lines)
IsAnswer most_bytes most_lines came LineTooLong = IsTrue (has_long came)
IsAnswer most_bytes most_lines came TooLarge = (lines : List (List ℕ)) × (CameAs came lines × (is_within most_bytes most_lines lines ≡ false))
IsAnswer most_bytes most_lines came More = ⊥

-- what a body feed holds
pub record BodyState : Type 0 where
  -- the most bytes and the most lines of a body
  pub most_bytes : ℕ
  pub most_lines : ℕ
  -- what a dot would be answered
  pub so_far : Result BodyStep Memory

-- what a feed holds after these lines since the last dot, if memory wasn't wanted
abbrev pub after : ℕ → ℕ → List Sent → BodyState
after most_bytes most_lines came =
    record { most_bytes = most_bytes; most_lines = most_lines; so_far = Ok (answer_after most_bytes most_lines came) }

-- what a feed holds after want of memory, up to the dot
abbrev pub wanting : ℕ → ℕ → BodyState
wanting most_bytes most_lines = record { most_bytes = most_bytes; most_lines = most_lines; so_far = Err (record {}) }

-- what a dot would be answered after one more line, by what it would be answered before; want of memory stays
abbrev pub with_line : ℕ → ℕ → Result BodyStep Memory → Sent → Result BodyStep Memory
with_line most_bytes most_lines (Err memory) sent = Err memory
with_line most_bytes most_lines (Ok step) None = Ok LineTooLong
with_line most_bytes most_lines (Ok (Whole lines)) (Some line) = Ok (whole_within most_bytes most_lines (lines ++ content_of line ∷ []))
with_line most_bytes most_lines (Ok LineTooLong) (Some line) = Ok LineTooLong
with_line most_bytes most_lines (Ok TooLarge) (Some line) = Ok TooLarge
with_line most_bytes most_lines (Ok More) (Some line) = Ok More

-- what a feed holds after one more line before the dot, if memory isn't wanted for it
abbrev pub joined : BodyState → Sent → BodyState
joined old sent = record old { so_far = with_line old.most_bytes old.most_lines old.so_far sent }

-- a line before the dot is counted in, or memory is wanted for it, which comes only where it would be kept
abbrev pub Joins : BodyState → Sent → BodyState → Result BodyStep Memory → Type 0
Joins old sent new (Ok step) = (step ≡ More) × (new ≡ joined old sent)
Joins old sent new (Err memory) = (new ≡ record old { so_far = Err memory }) × ((lines : List (List ℕ)) × ((joined old sent).so_far ≡ Ok (Whole lines)))

-- the dot is answered, and the next line begins a new body
abbrev pub Ends : BodyState → BodyState → Result BodyStep Memory → Type 0
Ends old new result = (result ≡ old.so_far) × (new ≡ after old.most_bytes old.most_lines [])

-- the dot will be refused, whatever lines come before it
abbrev pub is_refused : Result BodyStep Memory → Bool
is_refused (Ok LineTooLong) = true
is_refused (Ok TooLarge) = true
is_refused (Ok More) = false
is_refused (Ok (Whole lines)) = false
is_refused (Err memory) = false

-- a call of `line`
abbrev pub TakesLine : BodyState → Sent → BodyState → Result BodyStep Memory → Type 0
TakesLine old sent new result = MatchBool (is_end sent) (Ends old new result) (Joins old sent new result)

-- calls of `line` with these lines, one after another, before the dot
abbrev pub TakesAll : BodyState → List Sent → BodyState → Type 0
TakesAll old [] new = new ≡ old
TakesAll old (sent ∷ more) new =
    (middle : BodyState) × ((result : Result BodyStep Memory) × ((is_end sent ≡ false) × TakesLine old sent middle result × TakesAll middle more new))
