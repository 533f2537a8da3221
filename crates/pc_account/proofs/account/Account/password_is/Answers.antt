use Rattle.std.proofs.Common.{ℕ, List, Option, false, sym, ap, ◌∙◌}
use Rattle.std.specs.Option.{option_map_or}
use Rattle.pc_account_history.specs.Known.{Known}
use Rattle.pc_tables.specs.Table.{same}
use Rattle.pc_account_holdings.specs.State.{State}
use Rattle.pc_account.proofs.Standing.{said_is_known}
use Rattle.pc_account.proofs.account.Account.password_is.Goals as goal

pub returns-in-None-clause-history : goal.returns-in-None-clause-history
returns-in-None-clause-history c = λ h stands.
    ap (λ (digest : Option (List ℕ)). option_map_or (same c.args.digest.now) digest false)
    (sym c.in-None.is ∙ c.digest.ensures ∙ ap (λ (s : State). s.held.digest) c.self.view_is ∙ ap (λ (k : Known). k.digest) (said_is_known c.args.self.now h stands))

pub returns-in-Some-clause-history : goal.returns-in-Some-clause-history
returns-in-Some-clause-history c = λ h stands. c.eq.ensures
    ∙ ap (λ (digest : Option (List ℕ)). option_map_or (same c.args.digest.now) digest false)
    (sym c.in-Some.is ∙ c.digest.ensures ∙ ap (λ (s : State). s.held.digest) c.self.view_is ∙ ap (λ (k : Known). k.digest) (said_is_known c.args.self.now h stands))
