-- A line that says that a user asks.
use Rattle.std.proofs.Common.{◌≡◌, ℕ, List, [], ◌∷◌, ◌++◌, IsTrue, Result, Ok, Err, IsOk, OnOk, subst}
use Rattle.std.proofs.lemmas.Bool.{false≢true}
use Rattle.pc_base.specs.declared.failure.Memory.{Memory}
use Rattle.pc_base.specs.Name.{is_name}
use Rattle.pc_world.specs.Account.{Account}
use Rattle.pc_world.specs.Events.{IsAsked, IsEvent}
use Rattle.pc_world.specs.Reading.{IsAsking}
use Rattle.pc_world.specs.Runs.{Plays, text_of}
use Rattle.pc_world.specs.Steps.{Prints}
use Rattle.pc_world.specs.declared.event.Asked.{Asked}
use Rattle.pc_world.specs.declared.event.Event.TheVariants.{Ask}

-- it is the event of what is asked
pub asks : (line user text : List ℕ) (asked : Asked) → IsAsking line user text → IsTrue (is_name user) → IsAsked text asked → IsEvent (line ∷ []) (Ask user asked)
asks line user text asked asking named is =
    (asking.short, asking.loud, (asking.split, named, subst (λ (t : List ℕ). IsAsked t asked) asking.text_is is))

-- a world with the user plays it
pub asks_plays : (old new : List Account) (bytes bytes' line user text : List ℕ) (asked : Asked) (result : Result Unit Memory)
    → IsAsking line user text → IsTrue (is_name user) → IsAsked text asked → IsOk result
    → OnOk result (Prints old (Ask user asked) new (λ (lines : List (List ℕ)) (now : List ℕ). now ≡ bytes ++ text_of lines) bytes')
    → (printed : List (List ℕ)) × (Plays old (line ∷ []) printed new × (bytes' ≡ bytes ++ text_of printed))
asks_plays old new bytes bytes' line user text asked (Ok done) asking named is ok prints =
    (prints.0, (record { event = Ask user asked; is_event = asks line user text asked asking named is; step = prints.1.0 }, prints.1.1))
asks_plays old new bytes bytes' line user text asked (Err memory) asking named is ok prints = absurd (false≢true ok)
