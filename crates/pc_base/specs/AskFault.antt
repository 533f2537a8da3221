-- How an outcome is told: itself, or want of memory.
use Rattle.std.specs.Prelude.{◌≡◌, ⊤, Result, Ok, Err}
use Rattle.pc_base.specs.declared.refusal.Refusal.{Refusal}
use Rattle.pc_base.specs.declared.ask_fault.AskFault.{AskFault}
use Rattle.pc_base.specs.declared.ask_fault.AskFault.TheVariants.{Refused, Memory}

-- an outcome as it is told: itself, or want of memory
abbrev pub Tells : {X : Type 0} → Result X Refusal → Result X AskFault → Type 0
Tells outcome (Err Memory) = ⊤
Tells (Ok x) (Ok told) = told ≡ x
Tells (Ok x) (Err (Refused refusal)) = ⊥
Tells (Err refusal) (Ok told) = ⊥
Tells (Err refusal) (Err (Refused told)) = told ≡ refusal

-- memory isn't wanted
abbrev pub IsNoMemory : {X : Type 0} → Result X AskFault → Type 0
IsNoMemory (Ok told) = ⊤
IsNoMemory (Err Memory) = ⊥
IsNoMemory (Err (Refused refusal)) = ⊤
