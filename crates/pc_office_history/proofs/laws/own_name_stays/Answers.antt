use Rattle.pc_office_history.proofs.Names.{own-stays}
use Rattle.pc_office_history.proofs.laws.own_name_stays.Goals as goal

pub returns : goal.returns
returns c = own-stays
