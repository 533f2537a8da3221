-- One turn of a replay, from what was fetched and what was played.
use Rattle.std.proofs.Common.{◌≡◌, ℕ, ◌∷◌, List, Option, Some, None, IfSome}
use Rattle.pc_wire.specs.Lines.{lines_of}
use Rattle.pc_wire.specs.Reader.{IfTold, TakesLine}
use Rattle.pc_wire.proofs.ReaderLemmas.{TakesLine-first}
use Rattle.pc_world.specs.Account.{Account}
use Rattle.pc_world.specs.Runs.{GoesOn}
use Rattle.pc_world.specs.Replay.{PlaysLine, TakesTurn, Stops}
use Rattle.pc_world.specs.declared.turn.Turn.{Turn}
use Rattle.pc_world.specs.declared.turn.Turn.TheVariants.{Played, Ended, Refused, ReadFault, Memory}

stops_told : (before after : Option (List ℕ)) (world : List Account) (line : List ℕ)
    → IfTold before after (TakesLine line)
    → ((rest : List (List ℕ)) → GoesOn world (line ∷ rest) → ⊥)
    → IfSome before (Stops world)
stops_told None after world line told stops = tt
stops_told (Some bytes) None world line told stops = absurd told
stops_told (Some bytes) (Some rest) world line told stops = (line, (lines_of rest, (TakesLine-first line bytes rest told, stops (lines_of rest))))

pub TakesTurn-plays : (old new : List Account) (text text' : List ℕ) (before after : Option (List ℕ)) (line : List ℕ) (turn : Turn)
    → IfTold before after (TakesLine line)
    → PlaysLine old new text text' line turn
    → TakesTurn old new text text' before after turn
TakesTurn-plays old new text text' before after line Played told plays = (line, (told, plays))
TakesTurn-plays old new text text' before after line Refused told plays = (stops_told before after old line told plays.0, plays.1)
TakesTurn-plays old new text text' before after line Memory told plays = plays
TakesTurn-plays old new text text' before after line Ended told plays = absurd plays
TakesTurn-plays old new text text' before after line ReadFault told plays = absurd plays

-- playing a line reads nothing
pub no_fault : (old new : List Account) (text text' line : List ℕ) (turn : Turn) → PlaysLine old new text text' line turn → turn ≡ ReadFault → ⊥
no_fault old new text text' line Played plays faulty = cc
no_fault old new text text' line Refused plays faulty = cc
no_fault old new text text' line Memory plays faulty = cc
no_fault old new text text' line Ended plays faulty = plays
no_fault old new text text' line ReadFault plays faulty = plays
