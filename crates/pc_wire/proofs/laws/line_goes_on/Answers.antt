use Rattle.pc_wire.proofs.FeedLemmas.{fed-goes_on}
use Rattle.pc_wire.proofs.laws.line_goes_on.Goals as goal

pub returns : goal.returns
returns c = fed-goes_on
