use Rattle.pc_reply.proofs.CallLemmas.{written_is_read as is_read}
use Rattle.pc_reply.proofs.laws.written_is_read.Goals as goal

pub returns : goal.returns
returns c = is_read
