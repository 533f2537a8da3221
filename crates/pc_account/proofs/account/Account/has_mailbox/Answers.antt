use Rattle.std.proofs.Common.{ap, ◌∙◌}
use Rattle.pc_account_history.specs.Allowed.{is_mailbox}
use Rattle.pc_account_history.specs.Known.{Known}
use Rattle.pc_account_holdings.specs.State.{State, said}
use Rattle.pc_account.proofs.Standing.{said_is_known}
use Rattle.pc_account.proofs.account.Account.has_mailbox.Goals as goal

pub returns-clause-history : goal.returns-clause-history
returns-clause-history c = λ h stands. c.is_mailbox.ensures ∙ ap (λ (s : State). is_mailbox (said s) c.args.mailbox.now) c.self.view_is ∙ ap (λ (k : Known). is_mailbox k c.args.mailbox.now) (said_is_known c.args.self.now h stands)
