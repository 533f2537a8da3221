use Rattle.pc_world.proofs.OneOutcome.{IsRun-once}
use Rattle.pc_world.proofs.laws.one_transcript.Goals as goal

pub returns : goal.returns
returns c = IsRun-once c.one_event_a_line.ensures c.one_step_an_event.ensures
