use Rattle.pc_world.proofs.OneOutcome.{IsOfForm-run}
use Rattle.pc_world.proofs.laws.runs_have_the_form.Goals as goal

pub returns : goal.returns
returns c = IsOfForm-run c.one_event_a_line.ensures c.one_step_an_event.ensures
