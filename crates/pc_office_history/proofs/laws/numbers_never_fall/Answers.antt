use Rattle.pc_office_history.proofs.Waiting.{never-fall}
use Rattle.pc_office_history.proofs.laws.numbers_never_fall.Goals as goal

pub returns : goal.returns
returns c = never-fall
