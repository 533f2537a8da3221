use Rattle.pc_fields.proofs.Formats.{after_field, no_field}
use Rattle.pc_office_spelling.proofs.entry_reading.read_whole.Goals as goal

pub returns-in_err-tag : goal.returns-in_err-tag
returns-in_err-tag c = no_field c.in_err-tag.ensures c.from_residual.ensures

pub returns : goal.returns
returns c = after_field c.in_ok-tag.ensures c.read_parts.ensures
