use Rattle.std.proofs.Common.{◌∙◌, sym, ap, List, option_map}
use Rattle.pc_account_history.specs.declared.kept.Kept.{Kept}
use Rattle.pc_account_history.specs.Record.{kept_at}
use Rattle.pc_account.proofs.Found.{dead-messages}
use Rattle.pc_account.proofs.allowing.flags_of.Goals as goal

pub returns-in_err-mailbox : goal.returns-in_err-mailbox
returns-in_err-mailbox c =
    let state = c.args.holdings.now in
    c.from_residual.ensures ∙ sym (ap (λ (messages : List Kept). option_map (λ (kept : Kept). kept.flags) (kept_at c.args.uid messages)) (dead-messages state.held state.next c.args.mailbox.now c.requires.well_formed (sym c.in_err-mailbox.ensures)))
