use Rattle.pc_reply.proofs.CallLemmas.{more_opens}
use Rattle.pc_reply.proofs.laws.more_takes_on.Goals as goal

pub returns : goal.returns
returns c old new nexts = more_opens old new old.progress nexts
