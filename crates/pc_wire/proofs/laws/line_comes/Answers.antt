use Rattle.pc_wire.proofs.FeedLemmas.{lines_of-fed, fed-shows}
use Rattle.pc_wire.proofs.laws.line_comes.Goals as goal

pub returns-clause-lines : goal.returns-clause-lines
returns-clause-lines c = lines_of-fed

pub returns-clause-shown : goal.returns-clause-shown
returns-clause-shown c = fed-shows
