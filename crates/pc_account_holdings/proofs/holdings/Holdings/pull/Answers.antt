use Rattle.std.proofs.Common.{ap, ◌∙◌}
use Rattle.pc_account_history.specs.declared.entry.Entry.TheVariants as entry
use Rattle.pc_account_holdings.specs.contracts.holdings.Holdings.{the_view}
use Rattle.pc_account_holdings.specs.State.{State, entered}
use Rattle.pc_account_holdings.proofs.States.{entered-pull}
use Rattle.pc_account_holdings.proofs.holdings.Holdings.pull.Goals as goal

pub returns : goal.returns
returns c =
    let s = the_view c.self.inside in
    entered-pull s c.args.upto c.args.letters.now c.deliver.new.self c.in_ok-deliver.ensures ∙ ap (λ (state : State). entered state (entry.Pull c.args.upto c.args.letters.now)) c.self.view_is
