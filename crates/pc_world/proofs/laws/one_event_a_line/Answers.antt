use Rattle.pc_world.proofs.OneStep.{event_once}
use Rattle.pc_world.proofs.laws.one_event_a_line.Goals as goal

pub returns : goal.returns
returns c = event_once c.one_request_a_line.ensures c.requests_have_no_fault.ensures
