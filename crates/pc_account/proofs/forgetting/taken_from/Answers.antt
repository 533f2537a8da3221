use Rattle.std.proofs.Common.{◌∙◌, ℕ, List, sym, ap, get_or}
use Rattle.pc_account.specs.Plan.{with_taken}
use Rattle.pc_account.proofs.Taken.{all-taken-next}
use Rattle.pc_account.proofs.forgetting.taken_from.Goals as goal

pub loop-listed-preserved : goal.loop-listed-preserved
loop-listed-preserved c =
    let shown = c.args.shown.now in
    let index = c.loop-listed.listed-index in
    c.in_ok-take_one.ensures
    ∙ ap (λ (uids : List ℕ). with_taken c.args.client.now c.args.mailbox.now c.args.low c.args.high uids (get_or shown index (record { uid = 0; stamp = 0 }))) c.loop-listed.invariant
    ∙ sym (all-taken-next c.args.client.now c.args.mailbox.now c.args.low c.args.high shown index (record { uid = 0; stamp = 0 }) c.loop-listed-test.true)
