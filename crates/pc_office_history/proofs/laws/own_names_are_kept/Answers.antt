use Rattle.pc_office_history.proofs.Names.{own-names-kept}
use Rattle.pc_office_history.proofs.laws.own_names_are_kept.Goals as goal

pub returns : goal.returns
returns c = own-names-kept
