use Rattle.pc_fields.proofs.Formats.{nothing_more, after_field, no_field}
use Rattle.pc_account_spelling.proofs.spelling.entry_reading.read_mark.Goals as goal

pub returns-in_err-board : goal.returns-in_err-board
returns-in_err-board c = no_field c.in_err-board.ensures c.from_residual.ensures

pub returns-in_err-uid : goal.returns-in_err-uid
returns-in_err-uid c = after_field c.in_ok-board.ensures (no_field c.in_err-uid.ensures c.from_residual-in_err-uid.ensures)

pub returns : goal.returns
returns c = after_field c.in_ok-board.ensures (after_field c.in_ok-uid.ensures nothing_more)
