use Rattle.pc_account_history.proofs.Living.{kept-mailbox}
use Rattle.pc_account_history.proofs.laws.lives_in_a_mailbox.Goals as goal

pub returns : goal.returns
returns c = kept-mailbox
