use Rattle.pc_reply.proofs.SpellLemmas.{replies_differ as reply_differs}
use Rattle.pc_reply.proofs.laws.replies_differ.Goals as goal

pub returns : goal.returns
returns c = reply_differs
