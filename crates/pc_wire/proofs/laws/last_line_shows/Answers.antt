use Rattle.pc_wire.proofs.FeedLemmas.{fed-shows_last}
use Rattle.pc_wire.proofs.laws.last_line_shows.Goals as goal

pub returns : goal.returns
returns c = fed-shows_last
