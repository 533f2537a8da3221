-- How a replay goes on, and how it ends.
use Rattle.std.specs.Prelude.{◌≡◌, ℕ, List, [], ◌∷◌, ◌++◌, Option, Some, IfSome, Result, Ok, Err, ◌⊎◌, length, take}
use Rattle.std.specs.Io.KnownBytes.{Appends}
use Rattle.pc_base.specs.declared.failure.Failed.{Failed}
use Rattle.pc_base.specs.declared.failure.Memory.{Memory as MemoryWanted}
use Rattle.pc_base.specs.Stream.{AppendsFront, Rose}
use Rattle.pc_wire.specs.Lines.{lines_of}
use Rattle.pc_wire.specs.Reader.{IfTold, TakesLine}
use Rattle.pc_world.specs.Account.{Account}
use Rattle.pc_world.specs.declared.replaying.ReplayEnd.{ReplayEnd}
use Rattle.pc_world.specs.declared.replaying.ReplayEnd.TheVariants.{Done, Refused, ReadFault, WriteFault, Memory}
use Rattle.pc_world.specs.declared.turn.Turn.{Turn}
use Rattle.pc_world.specs.declared.turn.Turn.TheVariants as turn
use Rattle.pc_world.specs.Runs.{Plays, GoesOn, IsRun, IsRefused, IsFront, IsOfForm, text_of}

-- the bytes stand behind the text, or memory was wanted and the text is still in front
abbrev pub Adds : List ℕ → List ℕ → List ℕ → Result Unit MemoryWanted → Type 0
Adds text text' bytes (Ok done) = text' ≡ text ++ bytes
Adds text text' bytes (Err memory) = take (length text) text' ≡ text

-- a line was played, or refused, or memory was wanted; the text has what was printed behind it
abbrev pub PlaysLine : List Account → List Account → List ℕ → List ℕ → List ℕ → Turn → Type 0
PlaysLine old new text text' line turn.Played =
    (printed : List (List ℕ)) × (Plays old (line ∷ []) printed new × (text' ≡ text ++ text_of printed))
PlaysLine old new text text' line turn.Refused = ((rest : List (List ℕ)) → GoesOn old (line ∷ rest) → ⊥) × (text' ≡ text)
PlaysLine old new text text' line turn.Memory = text' ≡ text
PlaysLine old new text text' line turn.Ended = ⊥
PlaysLine old new text text' line turn.ReadFault = ⊥

-- the lines that are left begin with one that stops the world
abbrev pub Stops : List Account → List ℕ → Type 0
Stops world bytes = (line : List ℕ) × ((rest : List (List ℕ)) × ((lines_of bytes ≡ line ∷ rest) × (GoesOn world (line ∷ rest) → ⊥)))

-- the next line was fetched and played, from the unread bytes before to those after
abbrev pub TakesTurn : List Account → List Account → List ℕ → List ℕ → Option (List ℕ) → Option (List ℕ) → Turn → Type 0
TakesTurn old new text text' before after turn.Played =
    (line : List ℕ) × (IfTold before after (TakesLine line) × PlaysLine old new text text' line turn.Played)
TakesTurn old new text text' before after turn.Ended =
    IfTold before after (λ bytes rest. (lines_of bytes ≡ []) × (rest ≡ [])) × (text' ≡ text)
TakesTurn old new text text' before after turn.Refused = IfSome before (Stops old) × (text' ≡ text)
TakesTurn old new text text' before after turn.ReadFault = text' ≡ text
TakesTurn old new text text' before after turn.Memory = text' ≡ text

-- the text was written and let go, or nothing was done, or the output failed
abbrev pub Sends : Option (List ℕ) → Option (List ℕ) → List ℕ → List ℕ → Result Unit Failed → Type 0
Sends before after text text' (Ok done) = ((text' ≡ text) × (after ≡ before)) ⊎ ((text' ≡ []) × Appends before after text)
Sends before after text text' (Err failed) = AppendsFront before after text

-- the text was written and this is the end, or the output failed
abbrev pub Finishes : Option (List ℕ) → Option (List ℕ) → ℕ → ℕ → List ℕ → ReplayEnd → ReplayEnd → Type 0
Finishes before after faults faults' text end result =
    ((result ≡ end) × Appends before after text) ⊎ ((result ≡ WriteFault) × AppendsFront before after text × Rose faults faults')

-- the bytes appended to the output are such a text of the script, where the input tells it
abbrev pub Writes : Option (List ℕ) → Option (List ℕ) → Option (List ℕ) → (List ℕ → List ℕ → Type 0) → Type 0
Writes script before after Fact = IfSome script (λ bytes. (text : List ℕ) × (Appends before after text × Fact bytes text))

-- the bytes appended to the output are a front of what the script's events print that were read, where the input tells it
abbrev pub WritesFront : Option (List ℕ) → Option (List ℕ) → Option (List ℕ) → Option (List ℕ) → Type 0
WritesFront script left before after =
    IfTold script left (λ bytes rest. (read : List ℕ) × ((text : List ℕ) × ((bytes ≡ read ++ rest) × Appends before after text × IsFront bytes read text)))

-- the input from `script` to `left` and the output from `before` to `after`, by how the replay ended
abbrev pub Ends : Option (List ℕ) → Option (List ℕ) → Option (List ℕ) → Option (List ℕ) → ReplayEnd → Type 0
Ends script left before after Done = IfSome script (λ _. left ≡ Some []) × Writes script before after IsRun
Ends script left before after (Refused line) = Writes script before after (λ bytes text. IsRefused bytes line text)
Ends script left before after ReadFault = WritesFront script left before after
Ends script left before after WriteFault = WritesFront script left before after
Ends script left before after Memory = WritesFront script left before after

-- the script was played to its end, or memory was wanted
abbrev pub IsComplete : ReplayEnd → Type 0
IsComplete Done = Unit {0}
IsComplete Memory = Unit {0}
IsComplete (Refused line) = ⊥
IsComplete ReadFault = ⊥
IsComplete WriteFault = ⊥

-- a script of the form is played to its end where no count rises
abbrev pub Completes : Option (List ℕ) → Type 0 → Type 0 → ReplayEnd → Type 0
Completes script ReadRose WriteRose end = IfSome script (λ bytes. IsOfForm bytes → (ReadRose → ⊥) → (WriteRose → ⊥) → IsComplete end)

-- this refusal is told, or memory was wanted
abbrev pub Tells : ℕ → ReplayEnd → Type 0
Tells number (Refused line) = line ≡ number
Tells number Memory = Unit {0}
Tells number Done = ⊥
Tells number ReadFault = ⊥
Tells number WriteFault = ⊥

-- a script that is refused at a line is told to be refused at that line where no count rises
abbrev pub Refuses : Option (List ℕ) → Type 0 → Type 0 → ReplayEnd → Type 0
Refuses script ReadRose WriteRose end =
    IfSome script (λ bytes. (number : ℕ) (text : List ℕ) → IsRefused bytes number text → (ReadRose → ⊥) → (WriteRose → ⊥) → Tells number end)
