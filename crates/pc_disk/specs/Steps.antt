-- A device call and its sync.
use Rattle.std.specs.Prelude.{ℕ, Result, Ok, Err}
use Rattle.pc_disk.specs.declared.steps.StepFault.{StepFault}
use Rattle.pc_disk.specs.declared.steps.StepFault.TheVariants.{Call, Sync}

-- how many device calls a step made
abbrev pub step_calls : {T : Type 0} → Result T StepFault → ℕ
step_calls (Ok value) = 2
step_calls (Err Call) = 1
step_calls (Err Sync) = 2
