use Rattle.std.proofs.Common.{◌≡◌, ◌∙◌, ℕ, List, sym, ap, subst}
use Rattle.pc_office_history.specs.declared.entry.OfficeEntry.{OfficeEntry}
use Rattle.pc_office_history.specs.declared.entry.OfficeEntry.TheVariants.{Accept}
use Rattle.pc_office_history.specs.Known.{said_by}
use Rattle.pc_office_history.specs.Limits.{limit_passed}
use Rattle.pc_office_holdings.specs.Held.{record_in}
use Rattle.pc_office.proofs.limits.limit_passed.Goals as goal

pub returns-in-Accept : goal.returns-in-Accept
returns-in-Accept c =
    let k = said_by (record_in c.args.holdings.now) in
    subst (λ (entry : OfficeEntry). c.limit_of_mail.result ≡ limit_passed k entry) (sym c.in-Accept.is) (c.limit_of_mail.ensures.limit ∙ ap (λ (names : List (List ℕ)). limit_passed k (Accept names c.in-Accept.message)) c.as_slice.ensures)
