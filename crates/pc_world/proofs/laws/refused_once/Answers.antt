use Rattle.pc_world.proofs.OneOutcome.{IsRefused-once}
use Rattle.pc_world.proofs.laws.refused_once.Goals as goal

pub returns : goal.returns
returns c = IsRefused-once c.one_event_a_line.ensures c.one_step_an_event.ensures
