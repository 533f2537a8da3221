use Rattle.pc_office_history.proofs.Waiting.{boards-grow}
use Rattle.pc_office_history.proofs.laws.boards_only_grow.Goals as goal

pub returns : goal.returns
returns c = boards-grow
