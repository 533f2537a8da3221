use Rattle.pc_wire.proofs.ReaderLemmas.{TakesLine-leads}
use Rattle.pc_wire.proofs.reader_laws.taken_line_leads.Goals as goal

pub returns : goal.returns
returns c = TakesLine-leads
