use Rattle.pc_wire.proofs.ReaderLemmas.{KeepsLines-excess}
use Rattle.pc_wire.proofs.reader_laws.excess_is_no_line.Goals as goal

pub returns : goal.returns
returns c = KeepsLines-excess
