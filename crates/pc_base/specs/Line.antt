-- Lines of content.
use Rattle.std.specs.Prelude.{◌≡◌, ℕ, ◌<◌, ◌==◌, Bool, not, ◌&&◌, nat_le, IsTrue, List, length, Result, Ok, Err}
use Rattle.std.specs.List.{list_any}
use Rattle.pc_base.specs.declared.line.LineFault.{LineFault}
use Rattle.pc_base.specs.declared.line.LineFault.TheVariants.{TooLong, HasLf, Memory}

-- an LF is among the bytes
abbrev pub has_feed : List ℕ → Bool
has_feed bytes = list_any (λ byte. byte == 10) bytes

-- at most 1,000 bytes without LF
abbrev pub is_line : List ℕ → Bool
is_line bytes = nat_le (length bytes) 1000 && not (has_feed bytes)

-- what a copy of bytes as a line is: the line, or the first thing that is wrong; want of memory is free
abbrev pub LineOutcome : List ℕ → Result (List ℕ) LineFault → Type 0
LineOutcome bytes (Ok line) = (line ≡ bytes) × IsTrue (is_line bytes)
LineOutcome bytes (Err TooLong) = 1000 < length bytes
LineOutcome bytes (Err HasLf) = IsTrue (nat_le (length bytes) 1000) × IsTrue (has_feed bytes)
LineOutcome bytes (Err Memory) = Unit {0}
