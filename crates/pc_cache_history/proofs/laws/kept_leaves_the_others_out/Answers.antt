use Rattle.pc_cache_history.proofs.Mailboxes.{cut-to}
use Rattle.pc_cache_history.proofs.laws.kept_leaves_the_others_out.Goals as goal

pub returns : goal.returns
returns c = cut-to
