use Rattle.std.proofs.Common.{ap, ◌∙◌}
use Rattle.std.specs.Map.{lookup}
use Rattle.pc_tables.specs.Table.{same}
use Rattle.pc_account_history.specs.Known.{Known}
use Rattle.pc_account_holdings.specs.State.{State}
use Rattle.pc_account.proofs.Standing.{said_is_known}
use Rattle.pc_account.proofs.account.Account.birth.Goals as goal

pub returns-clause-history : goal.returns-clause-history
returns-clause-history c = λ h stands. c.birth.ensures ∙ ap (λ (s : State). lookup (same c.args.client.now) s.held.clients) c.self.view_is ∙ ap (λ (k : Known). lookup (same c.args.client.now) k.clients) (said_is_known c.args.self.now h stands)
