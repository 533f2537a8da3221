use Rattle.pc_wire.proofs.BodyFeedLemmas.{line_joins}
use Rattle.pc_wire.proofs.body_laws.line_joins.Goals as goal

pub returns : goal.returns
returns c = line_joins
