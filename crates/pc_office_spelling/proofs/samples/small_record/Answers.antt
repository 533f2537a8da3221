use Rattle.std.proofs.Common.{refl}
use Rattle.pc_fields.specs.FieldBytes.{u16_field, u32_field, u64_field}
use Rattle.pc_office_spelling.proofs.samples.small_record.Goals as goal

pub returns : goal.returns
unfolding u16_field u32_field u64_field
returns c = refl
