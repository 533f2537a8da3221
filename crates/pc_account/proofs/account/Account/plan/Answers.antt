use Rattle.std.proofs.Common.{subst}
use Rattle.pc_base.specs.AskFault.{Tells}
use Rattle.pc_account_history.specs.Known.{Known}
use Rattle.pc_account_holdings.specs.State.{State, said}
use Rattle.pc_account.specs.Plan.{planned}
use Rattle.pc_account.proofs.Accepted.{plan-accepted}
use Rattle.pc_account.proofs.Standing.{said_is_known}
use Rattle.pc_account.proofs.Settling.{plan-follows}
use Rattle.pc_account.proofs.account.Account.plan.Goals as goal

pub returns-clause-history : goal.returns-clause-history
returns-clause-history c = λ h stands. subst (λ (k : Known). Tells (planned k c.args.wish.now) c.plan.result) (said_is_known c.args.self.now h stands) (subst (λ (s : State). Tells (planned (said s) c.args.wish.now) c.plan.result) c.self.view_is c.plan.ensures.exact)

pub returns-clause-allowed : goal.returns-clause-allowed
returns-clause-allowed c = plan-follows (said c.args.self.now) c.args.wish.now c.requires c.plan.result (subst (λ (s : State). Tells (planned (said s) c.args.wish.now) c.plan.result) c.self.view_is c.plan.ensures.exact)

pub returns-clause-accepted : goal.returns-clause-accepted
returns-clause-accepted c = plan-accepted c.args.self.now c.args.wish.now c.requires c.plan.result (subst (λ (s : State). Tells (planned (said s) c.args.wish.now) c.plan.result) c.self.view_is c.plan.ensures.exact) c.plan.ensures.fits
