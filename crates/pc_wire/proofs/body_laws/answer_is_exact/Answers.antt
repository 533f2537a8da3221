use Rattle.pc_wire.proofs.BodyFeedLemmas.{answer_is_exact}
use Rattle.pc_wire.proofs.body_laws.answer_is_exact.Goals as goal

pub returns : goal.returns
returns c = answer_is_exact
