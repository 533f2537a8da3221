use Rattle.std.proofs.Common.{ap, ◌∙◌}
use Rattle.pc_account_history.specs.declared.entry.Entry.TheVariants as entry
use Rattle.pc_account_history.specs.Step.{taken_by}
use Rattle.pc_account_holdings.specs.contracts.holdings.Holdings.{the_view}
use Rattle.pc_account_holdings.specs.State.{State, entered}
use Rattle.pc_account_holdings.proofs.States.{entered-at}
use Rattle.pc_account_holdings.proofs.holdings.Holdings.forget.Goals as goal

pub returns : goal.returns
returns c =
    let s = the_view c.self.inside in
    entered-at s c.args.name.now (taken_by c.args.client.now c.args.uids.now) c.forget.new.self c.forget.ensures ∙ ap (λ (state : State). entered state (entry.Forget c.args.client.now c.args.name.now c.args.uids.now)) c.self.view_is
