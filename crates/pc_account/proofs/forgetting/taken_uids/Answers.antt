use Rattle.std.proofs.Common.{◌≡◌, ◌∙◌, ℕ, List, sym}
use Rattle.pc_base.proofs.Results.{if-ok}
use Rattle.pc_account_holdings.specs.State.{said}
use Rattle.pc_account.specs.Plan.{all_taken, taken_uids}
use Rattle.pc_account.proofs.Found.{not-dead}
use Rattle.pc_account.proofs.Taken.{taken-planned}
use Rattle.pc_account.proofs.forgetting.taken_uids.Goals as goal

pub returns-in-Some-clause-uids : goal.returns-in-Some-clause-uids
returns-in-Some-clause-uids c =
    let r = c.args.holdings.now.held in
    if-ok {P = λ (uids : List ℕ). uids ≡ all_taken c.args.client.now c.in-Some.holder.now c.args.low c.args.high c.args.shown.now} {Q = λ (uids : List ℕ). uids ≡ taken_uids (said c.args.holdings.now) c.args.client.now c.args.mailbox.now c.args.low c.args.high c.args.shown.now} c.taken_from.result
    (λ uids e. e ∙ taken-planned r c.args.holdings.now.next c.args.client.now c.args.mailbox.now c.args.low c.args.high c.args.shown.now c.in-Some.holder.now c.requires.canonical.well_formed c.in-Some.ensures) c.taken_from.ensures.uids

pub returns-in-None : goal.returns-in-None
returns-in-None c = absurd (not-dead c.args.holdings.now.held c.args.mailbox.now c.requires.lives (sym c.in-None.ensures))
