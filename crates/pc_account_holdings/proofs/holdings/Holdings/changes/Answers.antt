use Rattle.std.proofs.Common.{ap, sym, subst, ◌∙◌}
use Rattle.pc_account_history.specs.Legal.{IsCanonical}
use Rattle.pc_account_history.specs.Limits.{listed_count}
use Rattle.pc_account_holdings.specs.contracts.holdings.Holdings.{the_view}
use Rattle.pc_account_holdings.specs.State.{State, said}
use Rattle.pc_account_holdings.proofs.Bounds.{listed-known}
use Rattle.pc_account_holdings.proofs.holdings.Holdings.changes.Goals as goal

pub returns : goal.returns
returns c =
    let canonical = subst (λ (state : State). IsCanonical state.held state.next) (sym c.self.view_is) c.requires in
    listed-known (the_view c.self.inside) canonical c.changes.result c.changes-2.result c.changes.ensures c.changes-2.ensures ∙ ap (λ (state : State). listed_count (said state)) c.self.view_is
