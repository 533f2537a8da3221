use Rattle.pc_reply.proofs.ToldLemmas.{next_tells}
use Rattle.pc_reply.proofs.laws.told_is_true.Goals as goal

pub returns : goal.returns
returns c = next_tells
