use Rattle.pc_office_history.proofs.Waiting.{mail-added}
use Rattle.pc_office_history.proofs.laws.mail_is_added.Goals as goal

pub returns : goal.returns
returns c = mail-added
