use Rattle.pc_wire.proofs.BodyFeedLemmas.{body_is_read, only_bodies}
use Rattle.pc_wire.proofs.body_laws.body_is_read.Goals as goal

pub returns-clause-all : goal.returns-clause-all
returns-clause-all c = body_is_read

pub returns-clause-only : goal.returns-clause-only
returns-clause-only c = only_bodies
