use Rattle.pc_tables.proofs.Table.{same-true}
use Rattle.pc_tables.proofs.laws.same_is_equal.Goals as goal

pub returns : goal.returns
returns c = same-true
