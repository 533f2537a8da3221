use Rattle.pc_fields.proofs.Formats.{nothing_more, after_field, no_field}
use Rattle.pc_account_spelling.proofs.spelling.entry_reading.read_reset_mailbox.Goals as goal

pub returns-in_err-client : goal.returns-in_err-client
returns-in_err-client c = no_field c.in_err-client.ensures c.from_residual.ensures

pub returns-in_err-mailbox : goal.returns-in_err-mailbox
returns-in_err-mailbox c = after_field c.in_ok-client.ensures (no_field c.in_err-mailbox.ensures c.from_residual-in_err-mailbox.ensures)

pub returns : goal.returns
returns c = after_field c.in_ok-client.ensures (after_field c.in_ok-mailbox.ensures nothing_more)
