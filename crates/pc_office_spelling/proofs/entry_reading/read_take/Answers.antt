use Rattle.pc_fields.proofs.Formats.{nothing_more, after_field, no_field}
use Rattle.pc_office_spelling.proofs.entry_reading.read_take.Goals as goal

pub returns-in_err-address : goal.returns-in_err-address
returns-in_err-address c = no_field c.in_err-address.ensures c.from_residual.ensures

pub returns-in_err-user : goal.returns-in_err-user
returns-in_err-user c = after_field c.in_ok-address.ensures (no_field c.in_err-user.ensures c.from_residual-in_err-user.ensures)

pub returns-in_err-mailbox : goal.returns-in_err-mailbox
returns-in_err-mailbox c = after_field c.in_ok-address.ensures (after_field c.in_ok-user.ensures (no_field c.in_err-mailbox.ensures c.from_residual-in_err-mailbox.ensures))

pub returns : goal.returns
returns c = after_field c.in_ok-address.ensures (after_field c.in_ok-user.ensures (after_field c.in_ok-mailbox.ensures nothing_more))
