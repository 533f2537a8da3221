-- Each computes.
use Rattle.std.proofs.Common.{refl}
use Rattle.pc_fields.specs.FieldBytes as spelling
use Rattle.pc_session.specs.Repository.{answer_of, answer_in_box}
use Rattle.pc_session.proofs.samples.in_place_of_history.Goals as goal

pub returns : goal.returns
unfolding answer_of answer_in_box spelling.u32_field spelling.u64_field spelling.u16_field
returns c = (refl, refl, refl)
