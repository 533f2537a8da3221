use Rattle.std.proofs.Common.{ℕ, List, ◌⊎◌, inl, inr}
use Rattle.pc_world.proofs.OneOutcome.{EventOnce, StepOnce, IsOfForm-run}
use Rattle.pc_world.proofs.Outcomes.{Outcome, outcome}
use Rattle.pc_world.proofs.laws.form_or_refused.Goals as goal
use Rattle.pc_world.specs.Runs.{IsOfForm, IsRefused}

form_or : EventOnce → StepOnce → (script : List ℕ) → Outcome script → IsOfForm script ⊎ ((number : ℕ) × ((text : List ℕ) × IsRefused script number text))
form_or event_once step_once script (inl run) = inl (IsOfForm-run event_once step_once script run.0 run.1)
form_or event_once step_once script (inr refusal) = inr refusal

pub returns : goal.returns
returns c = λ script.
    form_or c.one_event_a_line.ensures c.one_step_an_event.ensures script (outcome c.faultless_lines_are_requests.ensures c.one_event_a_line.ensures script)
