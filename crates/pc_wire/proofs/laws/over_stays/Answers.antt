use Rattle.pc_wire.proofs.FeedLemmas.{over_stays}
use Rattle.pc_wire.proofs.laws.over_stays.Goals as goal

pub returns : goal.returns
returns c = over_stays
