-- Runs of scripts: chains of steps from a world without users, and what they print.
use Rattle.std.specs.Prelude.{◌≡◌, ℕ, ◌+◌, ◌≤◌, List, [], ◌∷◌, ◌++◌, length}
use Rattle.std.specs.List.{flat_map}
use Rattle.pc_wire.specs.Lines.{lines_of}
use Rattle.pc_world.specs.declared.event.Event.{Event}
use Rattle.pc_world.specs.Account.{Account}
use Rattle.pc_world.specs.Events.{IsEvent}
use Rattle.pc_world.specs.Steps.{Step}

-- the most lines of a script
abbrev pub most_lines : ℕ
most_lines = 1000000

-- these lines are an event, which prints so and leads from the old world to the new one
pub record Plays (old : List Account) (lines printed : List (List ℕ)) (new : List Account) : Type 0 where
  pub event : Event
  pub is_event : IsEvent lines event
  pub step : Step old event printed new

-- the lines of one event after another, each played in the world that the one before it left
abbrev pub Chain : List Account → List (List (List ℕ)) → List (List ℕ) → List Account → Type 0
Chain old [] printed new = (printed ≡ []) × (new ≡ old)
Chain old (event ∷ events) printed new =
    (first : List (List ℕ)) × ((middle : List Account) × ((others : List (List ℕ)) × ((printed ≡ first ++ others) × Plays old event first middle × Chain middle events others new)))

-- the lines of events, one event after the other
abbrev pub lines_in : List (List (List ℕ)) → List (List ℕ)
lines_in [] = []
lines_in (event ∷ events) = event ++ lines_in events

-- lines of a transcript as a text: each ends with LF
abbrev pub ended : List ℕ → List ℕ
ended line = line ++ 10 ∷ []

abbrev pub text_of : List (List ℕ) → List ℕ
text_of printed = flat_map ended printed

-- the events come first in the lines of the script, at most 1,000,000 of them, and the chain over them prints the lines
pub record Begins (script : List ℕ) (rest printed : List (List ℕ)) (last : List Account) : Type 0 where
  pub events : List (List (List ℕ))
  pub split : lines_of script ≡ lines_in events ++ rest
  pub few : length (lines_in events) ≤ most_lines
  pub chain : Chain [] events printed last

-- the world goes on: the lines begin with those of an event that it can play
pub record GoesOn (world : List Account) (lines : List (List ℕ)) : Type 0 where
  pub event : List (List ℕ)
  pub others : List (List ℕ)
  pub split : lines ≡ event ++ others
  pub printed : List (List ℕ)
  pub next : List Account
  pub plays : Plays world event printed next

-- the transcript is that of a run of the whole script
pub record IsRun (script transcript : List ℕ) : Type 0 where
  pub printed : List (List ℕ)
  pub last : List Account
  pub run : Begins script [] printed last
  pub text : transcript ≡ text_of printed

-- whatever events the script begins with, the world goes on with what is left of it
pub record IsOfForm (script : List ℕ) : Type 0 where
  pub few : length (lines_of script) ≤ most_lines
  pub goes_on : (line : List ℕ) (rest printed : List (List ℕ)) (last : List Account) → Begins script (line ∷ rest) printed last → GoesOn last (line ∷ rest)

-- the script is refused at this line: the text is that of the events before it, and the world doesn't go on, or the line is one too many
pub record IsRefused (script : List ℕ) (number : ℕ) (text : List ℕ) : Type 0 where
  pub line : List ℕ
  pub rest : List (List ℕ)
  pub printed : List (List ℕ)
  pub last : List Account
  pub begins : Begins script (line ∷ rest) printed last
  pub number_is : number + length rest ≡ length (lines_of script)
  pub within : number ≤ most_lines + 1
  pub text_is : text ≡ text_of printed
  pub stops : number ≤ most_lines → GoesOn last (line ∷ rest) → ⊥

-- the text is a front of what events print that the script begins with; what was read of it begins with the same lines, so none of them is cut
pub record IsFront (script read text : List ℕ) : Type 0 where
  pub rest : List (List ℕ)
  pub printed : List (List ℕ)
  pub last : List Account
  pub begins : Begins script rest printed last
  pub unplayed : List (List ℕ)
  pub whole : lines_of read ≡ lines_in begins.events ++ unplayed
  pub more : List ℕ
  pub text_is : text ++ more ≡ text_of printed
