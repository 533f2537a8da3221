use Rattle.pc_wire.proofs.LineLemmas.{lines_of-last}
use Rattle.pc_wire.proofs.laws.last_needs_no_feed.Goals as goal

pub returns-clause-one : goal.returns-clause-one
returns-clause-one c = lines_of-last
