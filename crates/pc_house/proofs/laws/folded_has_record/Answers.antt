use Rattle.pc_house.proofs.Folds.{folded_has_record}
use Rattle.pc_house.proofs.laws.folded_has_record.Goals as goal

pub returns : goal.returns
returns g c = folded_has_record
