use Rattle.pc_office_history.proofs.Waiting.{own-number}
use Rattle.pc_office_history.proofs.laws.mail_has_its_number.Goals as goal

pub returns : goal.returns
returns c = own-number
