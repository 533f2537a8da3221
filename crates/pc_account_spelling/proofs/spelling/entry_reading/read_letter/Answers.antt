use Rattle.pc_fields.specs.Format.{ends}
use Rattle.pc_fields.proofs.Formats.{nothing_more, after_field, after_part, no_part}
use Rattle.pc_account_spelling.proofs.spelling.entry_reading.read_letter.Goals as goal

pub returns-in_err-message : goal.returns-in_err-message
returns-in_err-message c = after_field c.in_ok-mailbox.ensures (no_part (λ message. ends (c.in_ok-mailbox.mailbox, message)) c.in_err-message.ensures.read c.from_residual-in_err-message.ensures)

pub returns : goal.returns
returns c = after_field c.in_ok-mailbox.ensures (after_part (λ message. ends (c.in_ok-mailbox.mailbox, message)) c.in_ok-message.ensures.read nothing_more)
