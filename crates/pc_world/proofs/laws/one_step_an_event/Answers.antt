use Rattle.pc_world.proofs.OneStep.{step_once}
use Rattle.pc_world.proofs.laws.one_step_an_event.Goals as goal

pub returns : goal.returns
returns c = step_once
