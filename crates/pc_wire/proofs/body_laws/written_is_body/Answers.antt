use Rattle.pc_wire.proofs.BodyLemmas.{written_is_body}
use Rattle.pc_wire.proofs.body_laws.written_is_body.Goals as goal

pub returns : goal.returns
returns c = written_is_body
