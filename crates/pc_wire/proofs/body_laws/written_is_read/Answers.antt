use Rattle.pc_wire.proofs.BodyFeedLemmas.{written_is_read}
use Rattle.pc_wire.proofs.body_laws.written_is_read.Goals as goal

pub returns : goal.returns
returns c = written_is_read
