use Rattle.pc_office_history.proofs.Waiting.{pulled-taken}
use Rattle.pc_office_history.proofs.laws.pulled_is_taken.Goals as goal

pub returns : goal.returns
returns c = pulled-taken
