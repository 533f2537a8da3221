use Rattle.pc_wire.proofs.FeedLemmas.{fed-pieces}
use Rattle.pc_wire.proofs.laws.pieces_join.Goals as goal

pub returns : goal.returns
returns c = fed-pieces
