use Rattle.std.proofs.Common.{◌≡◌, List, ℕ, None, option_copied, sym, ap, subst, ◌∙◌}
use Rattle.pc_office_history.specs.Allowed.{is_recipient}
use Rattle.pc_office_history.specs.declared.entry.OfficeEntry.TheVariants.{Accept}
use Rattle.pc_office_history.specs.Limits.{limit_passed}
use Rattle.pc_office_history.specs.Known.{said_by}
use Rattle.pc_office_holdings.specs.Held.{record_in}
use Rattle.pc_office.specs.Limits.{IsSendable}
use Rattle.pc_office.specs.Plan.{first_stranger}
use Rattle.pc_office.proofs.Sending.{none-strange, tells-sent}
use Rattle.pc_office.proofs.planning.send_to.Goals as goal

pub limit_of_mail-requires-clause-names : goal.limit_of_mail-requires-clause-names
limit_of_mail-requires-clause-names c =
    let k = said_by (record_in c.args.holdings.now) in
    let none : first_stranger k c.args.names ≡ None = ap (first_stranger k) (sym c.as_slice.ensures) ∙ sym c.first_stranger.ensures ∙ ap option_copied c.in_default.is in
    subst (λ (names : List (List ℕ)). IsSendable k names) (sym c.as_slice-2.ensures) (record { some = c.requires.some; apart = c.requires.apart; known = none-strange (is_recipient k) c.args.names none })

pub returns-clause-tells : goal.returns-clause-tells
returns-clause-tells c =
    let k = said_by (record_in c.args.holdings.now) in
    let names = c.args.names in
    let message = c.args.message.now in
    let none : first_stranger k names ≡ None = ap (first_stranger k) (sym c.as_slice.ensures) ∙ sym c.first_stranger.ensures ∙ ap option_copied c.in_default.is in
    let within : limit_passed k (Accept names message) ≡ None = ap (λ (all : List (List ℕ)). limit_passed k (Accept all message)) (sym c.as_slice-2.ensures) ∙ sym c.limit_of_mail.ensures.limit ∙ c.in_default-limit_of_mail.is in
    tells-sent k names message c.in_ok-message.message c.requires.few none within c.in_ok-message.ensures
