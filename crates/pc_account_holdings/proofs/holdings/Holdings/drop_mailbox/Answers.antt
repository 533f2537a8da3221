use Rattle.std.proofs.Common.{ap, ◌∙◌}
use Rattle.pc_base.proofs.Results.{on-ok}
use Rattle.pc_account_history.specs.declared.entry.Entry.TheVariants as entry
use Rattle.std.specs.Map.{lookup}
use Rattle.pc_tables.specs.Table.{same}
use Rattle.pc_account_holdings.specs.contracts.holdings.Holdings.{the_view}
use Rattle.pc_account_holdings.specs.State.{State, entered}
use Rattle.pc_account_holdings.proofs.States.{entered-drop}
use Rattle.pc_account_holdings.proofs.holdings.Holdings.drop_mailbox.Goals as goal

pub returns : goal.returns
returns c =
    let s = the_view c.self.inside in
    on-ok c.put.result (λ e. entered-drop s c.args.name.now c.in-Some.mailbox c.drop_all.new.self c.take.new.self c.put.new.self c.in-Some.ensures.mailbox (ap (λ (state : State). lookup (same c.args.name.now) state.held.dropped) c.self.view_is ∙ c.requires.dropped) c.take.ensures.others c.in_ok-drop_all.ensures.mailbox e ∙ ap (λ (state : State). entered state (entry.DropMailbox c.args.name.now)) c.self.view_is) c.put.ensures
