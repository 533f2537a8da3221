use Rattle.std.proofs.Common.{◌∙◌, sym, ap}
use Rattle.std.specs.List.{list_any}
use Rattle.pc_account_history.specs.declared.kept.Kept.{Kept}
use Rattle.pc_message.specs.Flags.{flag_of}
use Rattle.pc_account.proofs.Found.{live-messages, no-messages}
use Rattle.pc_account.proofs.allowing.any_deleted.Goals as goal

pub returns-in-Some : goal.returns-in-Some
returns-in-Some c =
    let state = c.args.holdings.now in
    c.deletes.ensures.value ∙ sym (ap (list_any (λ (kept : Kept). flag_of kept.flags 0)) (live-messages state.held state.next c.args.mailbox.now c.in-Some.mailbox.now c.requires.well_formed c.in-Some.ensures))

pub returns-in-None : goal.returns-in-None
returns-in-None c =
    let state = c.args.holdings.now in
    sym (ap (list_any (λ (kept : Kept). flag_of kept.flags 0)) (no-messages state.held state.next c.args.mailbox.now c.requires.well_formed (sym c.in-None.ensures)))
