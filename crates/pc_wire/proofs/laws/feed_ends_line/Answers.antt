use Rattle.pc_wire.proofs.LineLemmas.{lines_of-feed}
use Rattle.pc_wire.proofs.laws.feed_ends_line.Goals as goal

pub returns : goal.returns
returns c = lines_of-feed
