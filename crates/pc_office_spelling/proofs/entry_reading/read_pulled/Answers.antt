use Rattle.pc_fields.proofs.Formats.{nothing_more, after_field, no_field}
use Rattle.pc_office_spelling.proofs.entry_reading.read_pulled.Goals as goal

pub returns-in_err-user : goal.returns-in_err-user
returns-in_err-user c = no_field c.in_err-user.ensures c.from_residual.ensures

pub returns-in_err-number : goal.returns-in_err-number
returns-in_err-number c = after_field c.in_ok-user.ensures (no_field c.in_err-number.ensures c.from_residual-in_err-number.ensures)

pub returns : goal.returns
returns c = after_field c.in_ok-user.ensures (after_field c.in_ok-number.ensures nothing_more)
