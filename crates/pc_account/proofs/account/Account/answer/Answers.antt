use Rattle.std.proofs.Common.{subst}
use Rattle.pc_base.specs.AskFault.{Tells}
use Rattle.pc_account_history.specs.Known.{Known}
use Rattle.pc_account_holdings.specs.State.{State, said}
use Rattle.pc_account.specs.Answers.{answered}
use Rattle.pc_account.proofs.Standing.{said_is_known}
use Rattle.pc_account.proofs.account.Account.answer.Goals as goal

pub returns-clause-history : goal.returns-clause-history
returns-clause-history c = λ h stands. subst (λ (k : Known). Tells (answered k c.args.asked.now) c.answer.result) (said_is_known c.args.self.now h stands) (subst (λ (s : State). Tells (answered (said s) c.args.asked.now) c.answer.result) c.self.view_is c.answer.ensures.told)
