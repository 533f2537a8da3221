use Rattle.std.proofs.Common.{◌∙◌, sym, ap, length}
use Rattle.pc_account.proofs.Found.{live-messages, no-messages}
use Rattle.pc_account.proofs.parcels.count_of.Goals as goal

pub returns-in-Some-clause-count : goal.returns-in-Some-clause-count
returns-in-Some-clause-count c =
    let state = c.args.holdings.now in
    c.count.ensures.count ∙ sym (ap length (live-messages state.held state.next c.args.mailbox.now c.in-Some.holder.now c.requires.well_formed c.in-Some.ensures))

pub returns-in-None-clause-count : goal.returns-in-None-clause-count
returns-in-None-clause-count c =
    let state = c.args.holdings.now in
    sym (ap length (no-messages state.held state.next c.args.mailbox.now c.requires.well_formed (sym c.in-None.ensures)))
