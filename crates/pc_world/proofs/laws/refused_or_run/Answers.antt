use Rattle.pc_world.proofs.OneOutcome.{refused_or_run}
use Rattle.pc_world.proofs.laws.refused_or_run.Goals as goal

pub returns : goal.returns
returns c = refused_or_run c.one_event_a_line.ensures c.one_step_an_event.ensures
