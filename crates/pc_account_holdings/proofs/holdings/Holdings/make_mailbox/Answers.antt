use Rattle.std.proofs.Common.{ap, ◌∙◌, ◌∷◌, ◌++◌, [], refl}
use Rattle.pc_base.proofs.Results.{on-ok}
use Rattle.pc_tables.specs.Table.{others}
use Rattle.pc_account_holdings.specs.State.{State}
use Rattle.pc_account_holdings.proofs.States.{entered-make}
use Rattle.pc_account_holdings.proofs.holdings.Holdings.make_mailbox.Goals as goal

pub returns : goal.returns
returns c =
    let s = c.args.self.now in
    let name = c.args.name.now in
    let taken = c.self.view_is ∙ c.in_ok-mailbox.ensures.others in
    let live = c.put.new.self in
    on-ok c.put.result (λ e.
    ap (λ (state : State). record state { held = record state.held { live = live } }) taken
    ∙ entered-make s name c.in_ok-mailbox.mailbox live (others name s.held.dropped) c.requires c.in_ok-mailbox.ensures.mailbox refl
    (e ∙ ap (λ (state : State). state.held.live ++ (name, c.in_ok-mailbox.mailbox) ∷ []) taken)) c.put.ensures
