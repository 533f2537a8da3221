use Rattle.pc_tables.proofs.Table.{same-refl}
use Rattle.pc_tables.proofs.laws.same_is_reflexive.Goals as goal

pub returns : goal.returns
returns c = same-refl
