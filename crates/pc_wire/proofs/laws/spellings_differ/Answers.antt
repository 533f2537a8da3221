use Rattle.pc_wire.proofs.LineLemmas.{spellings_differ}
use Rattle.pc_wire.proofs.laws.spellings_differ.Goals as goal

pub returns : goal.returns
returns c = spellings_differ
