use Rattle.pc_office_history.proofs.Mails.{targets-apart, first-target}
use Rattle.pc_office_history.proofs.laws.target_is_of_first_name.Goals as goal

pub returns : goal.returns
returns c = (λ owner names. (targets-apart owner names, λ user. first-target user owner names))
