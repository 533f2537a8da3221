use Rattle.pc_session.proofs.InPlace.{record_stands_in}
use Rattle.pc_session.proofs.laws.record_stands_in.Goals as goal

pub returns : goal.returns
returns c = record_stands_in c.record_in_place_of_history.ensures
