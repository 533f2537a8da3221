-- What reads and writes of the outside do, and what their failures say.
use Rattle.std.specs.Prelude.{ℕ, ◌+◌, ◌-◌, ◌^◌, ◌≤◌, min, List, take, Option, Result, OnErr, MatchResult}
use Rattle.std.specs.Io.KnownBytes.{Appends}
use Rattle.pc_base.specs.declared.failure.Failed.{Failed}

-- a count of faults rose; at its last value, 2^64 - 1, it counts as risen
abbrev pub Rose : ℕ → ℕ → Type 0
Rose before now = min (before + 1) (2 ^ 64 - 1) ≤ now

-- a count never falls, and a failure comes only where it rose
pub record HasCause {T E : Type 0} (before now : ℕ) (result : Result T E) : Type 0 where
  pub later : before ≤ now
  pub failed : OnErr result (Rose before now)

-- some front of the bytes was appended, where the bytes written are told
abbrev pub AppendsFront : Option (List ℕ) → Option (List ℕ) → List ℕ → Type 0
AppendsFront old new bytes = (count : ℕ) × Appends old new (take count bytes)

-- all of the bytes were appended, or a front of them before the failure
abbrev pub WritesAll : {T : Type 0} → Option (List ℕ) → Option (List ℕ) → Result T Failed → List ℕ → Type 0
WritesAll old new result bytes = MatchResult result (λ _. Appends old new bytes) (λ _. AppendsFront old new bytes)
