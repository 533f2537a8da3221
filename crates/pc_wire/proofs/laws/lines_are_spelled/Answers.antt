use Rattle.pc_wire.proofs.LineLemmas.{IsSpelling-front}
use Rattle.pc_wire.proofs.laws.lines_are_spelled.Goals as goal

pub returns : goal.returns
returns c = IsSpelling-front
