use Rattle.pc_office_history.proofs.Names.{AreApart-legal}
use Rattle.pc_office_history.proofs.laws.names_are_apart.Goals as goal

pub returns : goal.returns
returns c = AreApart-legal
