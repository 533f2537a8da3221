-- Which call of a step fails, and what a step makes of what a crash might have left.
use Rattle.std.specs.Prelude.{ℕ, ◌+◌, Result, Ok, Err}
use Rattle.pc_disk.specs.declared.steps.StepFault.{StepFault}
use Rattle.pc_disk.specs.declared.steps.StepFault.TheVariants.{Call, Sync}
use Rattle.pc_disk.specs.Images.{Images}

-- a step fails at the first of its two calls that is due to fail, and nowhere else
abbrev pub FailsWhereDue : {T : Type 0} → Result T StepFault → ℕ → (ℕ → Type 0) → Type 0
FailsWhereDue (Ok value) moment due = (due moment → ⊥) × (due (moment + 1) → ⊥)
FailsWhereDue (Err Call) moment due = due moment
FailsWhereDue (Err Sync) moment due = (due moment → ⊥) × due (moment + 1)

-- an image after a step from one of these outcomes
abbrev pub LeadsOn : (Images → Images → Type 0) → (Images → Type 0) → Images → Type 0
LeadsOn step outcomes left = (before : Images) × outcomes before × step before left
