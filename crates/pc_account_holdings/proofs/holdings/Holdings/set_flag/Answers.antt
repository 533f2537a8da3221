use Rattle.std.proofs.Common.{ap, ◌∙◌}
use Rattle.pc_base.proofs.Results.{on-ok}
use Rattle.pc_account_history.specs.declared.entry.Entry.TheVariants as entry
use Rattle.pc_account_history.specs.Step.{with_flag_set}
use Rattle.pc_account_holdings.specs.contracts.holdings.Holdings.{the_view}
use Rattle.pc_account_holdings.specs.State.{State, entered}
use Rattle.pc_account_holdings.proofs.States.{entered-at}
use Rattle.pc_account_holdings.proofs.holdings.Holdings.set_flag.Goals as goal

pub returns : goal.returns
returns c =
    let s = the_view c.self.inside in
    on-ok c.flag.result (λ e. entered-at s c.args.name.now (with_flag_set s.next c.args.uid c.args.flag c.args.on) c.flag.new.self e ∙ ap (λ (state : State). entered state (entry.Flag c.args.name.now c.args.uid c.args.flag c.args.on)) c.self.view_is) c.flag.ensures
