use Rattle.pc_reply.proofs.CallLemmas.{reply_is_read as is_read}
use Rattle.pc_reply.proofs.laws.reply_is_read.Goals as goal

pub returns : goal.returns
returns c = is_read
