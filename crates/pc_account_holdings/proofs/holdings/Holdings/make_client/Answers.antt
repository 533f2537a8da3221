use Rattle.std.proofs.Common.{ap, ◌∙◌}
use Rattle.pc_base.proofs.Results.{on-ok}
use Rattle.pc_account_history.specs.declared.entry.Entry.TheVariants as entry
use Rattle.std.specs.Map.{lookup}
use Rattle.pc_tables.specs.Table.{same}
use Rattle.pc_account_holdings.specs.contracts.holdings.Holdings.{the_view}
use Rattle.pc_account_holdings.specs.State.{State, entered}
use Rattle.pc_account_holdings.proofs.States.{entered-client}
use Rattle.pc_account_holdings.proofs.holdings.Holdings.make_client.Goals as goal

pub returns : goal.returns
returns c =
    let s = the_view c.self.inside in
    on-ok c.change_lists.result (λ e. entered-client s c.args.client.now c.put.new.table.entries c.change_lists.new.self (ap (λ (state : State). lookup (same c.args.client.now) state.held.clients) c.self.view_is ∙ c.requires) c.in_ok-put.ensures.ok e ∙ ap (λ (state : State). entered state (entry.MakeClient c.args.client.now)) c.self.view_is) c.change_lists.ensures
