use Rattle.std.proofs.Common.{ap, ◌∙◌}
use Rattle.pc_account_history.specs.Known.{Known}
use Rattle.pc_account_holdings.specs.State.{State}
use Rattle.pc_account.proofs.Standing.{said_is_known}
use Rattle.pc_account.proofs.account.Account.pulled.Goals as goal

pub returns-clause-history : goal.returns-clause-history
returns-clause-history c = λ h stands. c.pulled.ensures ∙ ap (λ (s : State). s.held.pulled) c.self.view_is ∙ ap (λ (k : Known). k.pulled) (said_is_known c.args.self.now h stands)
