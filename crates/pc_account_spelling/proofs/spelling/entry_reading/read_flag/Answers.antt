use Rattle.pc_fields.proofs.Formats.{nothing_more, after_field, no_field}
use Rattle.pc_account_spelling.proofs.spelling.entry_reading.read_flag.Goals as goal

pub returns-in_err-flag : goal.returns-in_err-flag
returns-in_err-flag c = after_field c.in_ok-mailbox.ensures (after_field c.in_ok-uid.ensures (no_field c.in_err-flag.ensures c.from_residual-in_err-flag.ensures))

pub returns-in_err-on : goal.returns-in_err-on
returns-in_err-on c = after_field c.in_ok-mailbox.ensures (after_field c.in_ok-uid.ensures (after_field c.in_ok-flag.ensures (no_field c.in_err-on.ensures c.from_residual-in_err-on.ensures)))

pub returns : goal.returns
returns c = after_field c.in_ok-mailbox.ensures (after_field c.in_ok-uid.ensures (after_field c.in_ok-flag.ensures (after_field c.in_ok-on.ensures nothing_more)))
