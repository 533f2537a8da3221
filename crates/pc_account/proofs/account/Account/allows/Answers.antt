use Rattle.std.proofs.Common.{ap, ◌∙◌}
use Rattle.pc_account_history.specs.Known.{Known}
use Rattle.pc_account_holdings.specs.State.{State, said, may_follow}
use Rattle.pc_account.proofs.Standing.{said_is_known}
use Rattle.pc_account.proofs.account.Account.allows.Goals as goal

pub returns-clause-history : goal.returns-clause-history
returns-clause-history c = λ h stands. c.may_follow.ensures ∙ ap (λ (s : State). may_follow (said s) c.args.entry.now) c.self.view_is ∙ ap (λ (k : Known). may_follow k c.args.entry.now) (said_is_known c.args.self.now h stands)
