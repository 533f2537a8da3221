use Rattle.std.proofs.Common.{◌≡◌, ◌∙◌, List, ℕ, ap, true, subst, length}
use Rattle.std.specs.List.{list_all}
use Rattle.pc_fields.specs.Fitting.{is_u32}
use Rattle.pc_account_spelling.proofs.Fitting.{taken-few}
use Rattle.pc_account_spelling.proofs.spelling.entry_fitting.fits_forget.Goals as goal

pub returns-then-fits_names-clause-allowed : goal.returns-then-fits_names-clause-allowed
returns-then-fits_names-clause-allowed c =
    let each = subst (λ (uids : List ℕ). list_all is_u32 uids ≡ true) c.as_slice.ensures c.fits_uids.ensures.each in
    let counted = ap (λ (uids : List ℕ). is_u32 (length uids)) c.as_slice.ensures in
    λ known allowed. c.fits_uids.ensures.counted ∙ counted ∙ taken-few known c.args.client.now c.args.mailbox.now c.args.uids.now each allowed
