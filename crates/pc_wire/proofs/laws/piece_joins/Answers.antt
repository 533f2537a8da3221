use Rattle.pc_wire.proofs.FeedLemmas.{fed-taken}
use Rattle.pc_wire.proofs.laws.piece_joins.Goals as goal

pub returns : goal.returns
returns c = fed-taken
