use Rattle.pc_reply.proofs.HeadLemmas.{one_head}
use Rattle.pc_reply.proofs.laws.one_head_a_line.Goals as goal

pub returns : goal.returns
returns c = one_head
