use Rattle.std.proofs.Common.{ap, sym, subst, ◌∙◌}
use Rattle.pc_account_history.specs.Legal.{IsCanonical}
use Rattle.pc_account_history.specs.Limits.{weight}
use Rattle.pc_account_holdings.specs.contracts.holdings.Holdings.{the_view}
use Rattle.pc_account_holdings.specs.State.{State, said}
use Rattle.pc_account_holdings.proofs.Bounds.{weight-known}
use Rattle.pc_account_holdings.proofs.holdings.Holdings.weight.Goals as goal

pub returns : goal.returns
returns c =
    let canonical = subst (λ (state : State). IsCanonical state.held state.next) (sym c.self.view_is) c.requires in
    weight-known (the_view c.self.inside) canonical c.weight.result c.weight.ensures ∙ ap (λ (state : State). weight (said state)) c.self.view_is
