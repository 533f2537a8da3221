use Rattle.pc_wire.proofs.LineLemmas.{lines_of-spelling, lines_of-spellings}
use Rattle.pc_wire.proofs.laws.spellings_are_lines.Goals as goal

pub returns-clause-one : goal.returns-clause-one
returns-clause-one c = lines_of-spelling

pub returns-clause-each : goal.returns-clause-each
returns-clause-each c = lines_of-spellings
