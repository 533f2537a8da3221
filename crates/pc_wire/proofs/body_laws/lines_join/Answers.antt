use Rattle.pc_wire.proofs.BodyFeedLemmas.{lines_join, lines_dropped}
use Rattle.pc_wire.proofs.body_laws.lines_join.Goals as goal

pub returns-clause-kept : goal.returns-clause-kept
returns-clause-kept c = lines_join

pub returns-clause-dropped : goal.returns-clause-dropped
returns-clause-dropped c = lines_dropped
