use Rattle.pc_tables.proofs.Table.{same-sym}
use Rattle.pc_tables.proofs.laws.same_is_symmetric.Goals as goal

pub returns : goal.returns
returns c = same-sym
