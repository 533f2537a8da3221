use Rattle.pc_office_history.proofs.Waiting.{message-added}
use Rattle.pc_office_history.proofs.laws.message_is_added.Goals as goal

pub returns : goal.returns
returns c = message-added
