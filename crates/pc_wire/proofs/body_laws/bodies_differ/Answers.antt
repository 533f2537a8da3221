use Rattle.pc_wire.proofs.BodyLemmas.{bodies_differ}
use Rattle.pc_wire.proofs.body_laws.bodies_differ.Goals as goal

pub returns : goal.returns
returns c = bodies_differ
