use Rattle.pc_wire.proofs.ReaderLemmas.{TakesLine-first}
use Rattle.pc_wire.proofs.reader_laws.taken_line_is_first.Goals as goal

pub returns : goal.returns
returns c = TakesLine-first
