-- What a machine's calls answer.
use Rattle.std.specs.Prelude.{◌≡◌, ℕ, Option, IfSome, Result, Ok, Err}
use Rattle.pc_base.specs.declared.failure.ReadFault.{ReadFault}
use Rattle.pc_base.specs.declared.failure.ReadFault.TheVariants.{Malformed, Memory}

-- a fault of reading has a place with this property; want of memory is free
abbrev pub FaultAt : {T : Type 0} → Result T ReadFault → (ℕ → Type 0) → Type 0
FaultAt (Ok _) holds = Unit {0}
FaultAt (Err (Malformed place)) holds = holds place
FaultAt (Err Memory) holds = Unit {0}

-- the number, where one is kept, is this one
abbrev pub IsNumbered : Option ℕ → ℕ → Type 0
IsNumbered kept number = IfSome kept (λ n. n ≡ number)
