use Rattle.pc_office_history.specs.declared.entry.OfficeEntry.TheVariants.{Accept}
use Rattle.pc_fields.specs.Format.{ends, bind}
use Rattle.pc_fields.specs.MessageFormat.{message_format}
use Rattle.pc_fields.proofs.Formats.{nothing_more, after_part, no_part}
use Rattle.pc_office_spelling.proofs.entry_reading.read_accept.Goals as goal

pub returns-in_err-names : goal.returns-in_err-names
returns-in_err-names c = no_part (λ names. bind message_format (λ message. ends (Accept names message))) c.in_err-names.ensures c.from_residual.ensures

pub returns-in_err-message : goal.returns-in_err-message
returns-in_err-message c =
    after_part (λ names. bind message_format (λ message. ends (Accept names message))) c.in_ok-names.ensures
    (no_part (λ message. ends (Accept c.in_ok-names.names message)) c.in_err-message.ensures.read c.from_residual-in_err-message.ensures)

pub returns : goal.returns
returns c =
    after_part (λ names. bind message_format (λ message. ends (Accept names message))) c.in_ok-names.ensures
    (after_part (λ message. ends (Accept c.in_ok-names.names message)) c.in_ok-message.ensures.read nothing_more)
