use Rattle.std.proofs.Common.{◌≡◌, true, List, ℕ, sym, ap, subst, ◌∙◌, length, ◌==◌}
use Rattle.std.proofs.lemmas.Bool.{and_from}
use Rattle.pc_base.specs.Name.{is_name}
use Rattle.pc_account_history.specs.declared.entry.Entry.TheVariants as entry
use Rattle.pc_account_history.specs.Allowed.{is_allowed}
use Rattle.pc_account_holdings.specs.State.{said}
use Rattle.pc_account_spelling.proofs.Fitting.{taken-few}
use Rattle.pc_account.specs.declared.wish.Wish.TheVariants as wish
use Rattle.pc_account.specs.Plan.{taken_uids}
use Rattle.pc_account.proofs.Settling.{settled-allowed}
use Rattle.pc_account.proofs.forgetting.forget.Goals as goal

pub returns-clause-fits : goal.returns-clause-fits
returns-clause-fits c =
    let k = said c.args.holdings.now in
    let client = c.args.client.now in
    let mailbox = c.args.mailbox.now in
    let uids = c.in_ok-uids.uids in
    let taken : uids ≡ taken_uids k client mailbox c.args.low c.args.high c.args.shown.now = c.in_ok-uids.ensures.uids in
    let some = ap (λ (all : List ℕ). length all == 0) (sym taken ∙ sym c.as_slice.ensures) ∙ sym c.if-is_empty.ensures in
    let allowed = settled-allowed k (wish.Forget client mailbox c.args.low c.args.high c.args.shown.now) tt c.in_default.ensures some in
    let counted = taken-few k client mailbox uids c.in_ok-uids.ensures.fits (subst (λ (all : List ℕ). is_allowed k (entry.Forget client mailbox all) ≡ true) (sym taken) allowed) in
    and_from _ _ (and_from _ _ (and_from (is_name c.copy.result) (is_name c.copy-2.result) c.copy.ensures.name c.copy-2.ensures.name) counted) c.in_ok-uids.ensures.fits
