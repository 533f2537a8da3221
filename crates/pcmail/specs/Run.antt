-- How a run ends, by its words, what it read and what it wrote.
use Rattle.std.specs.Prelude.{◌≡◌, ℕ, List, [], ◌∷◌, codes, Option, Some, None, MatchOption}
use Rattle.pc_world.specs.Replay.{Ends, Completes, Refuses}
use Rattle.pc_world.specs.declared.replaying.ReplayEnd.{ReplayEnd}
use Rattle.pc_world.specs.declared.replaying.ReplayEnd.TheVariants as replay
use Rattle.pcmail.specs.declared.status.Status.{Status}
use Rattle.pcmail.specs.declared.status.Status.TheVariants.{Ok, Usage, InputRefused, ReadFault, WriteFault, Memory}

-- the one word is `replay`
abbrev pub IsReplay : List (List ℕ) → Type 0
IsReplay words = words ≡ codes "replay" ∷ []

-- how the replay ended that a status tells of, if there was one
abbrev pub end_of : Status → Option ReplayEnd
end_of Ok = Some replay.Done
end_of Usage = None
end_of (InputRefused line) = Some (replay.Refused line)
end_of ReadFault = Some replay.ReadFault
end_of WriteFault = Some replay.WriteFault
end_of Memory = Some replay.Memory

-- the input went from `script` to `left`, and the output from `before` to `after`: nothing was read or written, or the replay ended so
abbrev pub RunEnds : Option (List ℕ) → Option (List ℕ) → Option (List ℕ) → Option (List ℕ) → Status → Type 0
RunEnds script left before after status =
    MatchOption (end_of status) ((left ≡ script) × (after ≡ before)) (Ends script left before after)

-- a script of the form is played to its end where no count rises
abbrev pub RunCompletes : Option (List ℕ) → Type 0 → Type 0 → Status → Type 0
RunCompletes script ReadRose WriteRose status = MatchOption (end_of status) ⊥ (Completes script ReadRose WriteRose)

-- a script that is refused at a line is told to be refused at that line where no count rises
abbrev pub RunRefuses : Option (List ℕ) → Type 0 → Type 0 → Status → Type 0
RunRefuses script ReadRose WriteRose status = MatchOption (end_of status) ⊥ (Refuses script ReadRose WriteRose)
