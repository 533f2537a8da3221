-- What can be written of an office.
use Rattle.std.specs.Prelude.{ℕ, ◌<◌, List, length}
use Rattle.std.specs.List.{AllByRecursion}
use Rattle.pc_office_history.specs.declared.kept.KeptMail.{KeptMail}

-- the messages of each board can be counted in four bytes
abbrev pub HaveFewMessages : List (List ℕ × List (List (List ℕ))) → Type 0
HaveFewMessages boards = AllByRecursion (λ (board : List ℕ × List (List (List ℕ))). length board.1 < 4294967296) boards

-- the targets of each mail can be counted in two bytes
abbrev pub HaveFewTargets : List KeptMail → Type 0
HaveFewTargets kept = AllByRecursion (λ (mail : KeptMail). length mail.targets < 65536) kept
