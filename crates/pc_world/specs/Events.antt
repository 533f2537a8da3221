-- Which lines of a script are which event.
use Rattle.std.specs.Prelude.{◌≡◌, ℕ, ◌<◌, ◌≤◌, ◌==◌, Bool, true, false, IsTrue, List, [], ◌∷◌, length, codes, Some}
use Rattle.pc_base.specs.Name.{is_name, is_password}
use Rattle.pc_wire.specs.Words.{words_of, after_word, without_spaces}
use Rattle.pc_request.specs.Request.{Calls, IsRequest}
use Rattle.pc_request.specs.Fault.{fault_of}
use Rattle.pc_request.specs.declared.operation.Operation.{Operation}
use Rattle.pc_world.specs.declared.event.Asked.{Asked}
use Rattle.pc_world.specs.declared.event.Asked.TheVariants.{TooLong, Faulty, Read}
use Rattle.pc_world.specs.declared.event.Event.{Event}
use Rattle.pc_world.specs.declared.event.Event.TheVariants.{Silent, User, Ask}

-- the most bytes of a line of a script, and of a request in it
abbrev pub most_line : ℕ
most_line = 1000

abbrev pub most_request : ℕ
most_request = 512

-- an empty line, or a comment
abbrev pub is_silent : List ℕ → Bool
is_silent [] = true
is_silent (first ∷ others) = first == 35

-- what a text asks for: it is too long, or no request, or a request
abbrev pub IsAsked : List ℕ → Asked → Type 0
IsAsked text TooLong = most_request < length text
IsAsked text (Faulty fault) = (length text ≤ most_request) × (fault_of text ≡ Some fault)
IsAsked text (Read request) = (length text ≤ most_request) × IsRequest request text

-- a text that isn't too long, whose first word names the operation, and whose others are those of the words
abbrev pub IsCall : Operation → List ℕ → List ℕ → Type 0
IsCall operation words text = (length text ≤ most_request) × Calls operation (words_of words) (words_of text)

-- what follows the first two words of a line and the spaces behind them
abbrev pub text_asked : List ℕ → List ℕ
text_asked line = without_spaces (after_word (after_word line))

-- a line that isn't silent is this event
abbrev pub IsSaid : List ℕ → Event → Type 0
IsSaid line Silent = ⊥
IsSaid line (User name password) =
    (words_of line ≡ codes "user" ∷ name ∷ password ∷ []) × IsTrue (is_name name) × IsTrue (is_password password)
IsSaid line (Ask user asked) =
    (words_of line ≡ codes "ask" ∷ user ∷ words_of (text_asked line)) × IsTrue (is_name user) × IsAsked (text_asked line) asked

-- a line of at most 1,000 bytes is this event
abbrev pub IsEventLine : List ℕ → Event → Type 0
IsEventLine line Silent = (length line ≤ most_line) × (is_silent line ≡ true)
IsEventLine line event = (length line ≤ most_line) × (is_silent line ≡ false) × IsSaid line event

-- these lines are one event: so far each event has one line
abbrev pub IsEvent : List (List ℕ) → Event → Type 0
IsEvent (line ∷ []) event = IsEventLine line event
IsEvent _ event = ⊥
