use Rattle.pc_office_history.proofs.Waiting.{accepted-waits}
use Rattle.pc_office_history.proofs.laws.accepted_mail_waits.Goals as goal

pub returns : goal.returns
returns c = accepted-waits
