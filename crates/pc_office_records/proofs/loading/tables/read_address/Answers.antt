use Rattle.pc_fields.proofs.Formats.{after_field, no_field}
use Rattle.pc_office_records.proofs.loading.tables.read_address.Goals as goal

pub returns-in_err-mailbox-clause-read : goal.returns-in_err-mailbox-clause-read
returns-in_err-mailbox-clause-read c =
    after_field c.in_ok-name.ensures.read (after_field c.in_ok-user.ensures (no_field c.in_err-mailbox.ensures c.from_residual-in_err-mailbox.ensures))
