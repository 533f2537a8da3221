use Rattle.pc_world.proofs.Playing.{Ends-none}
use Rattle.pc_world.proofs.replaying.play_all.Goals as goal

pub returns-in_default-clause-ends : goal.returns-in_default-clause-ends
returns-in_default-clause-ends g c = Ends-none _ _
