use Rattle.pc_fields.proofs.Formats.{nothing_more, after_field, no_field}
use Rattle.pc_account_spelling.proofs.spelling.entry_reading.read_copy.Goals as goal

pub returns-in_err-target : goal.returns-in_err-target
returns-in_err-target c = after_field c.in_ok-mailbox.ensures (after_field c.in_ok-uid.ensures (no_field c.in_err-target.ensures c.from_residual-in_err-target.ensures))

pub returns : goal.returns
returns c = after_field c.in_ok-mailbox.ensures (after_field c.in_ok-uid.ensures (after_field c.in_ok-target.ensures nothing_more))
