use Rattle.pc_cache_history.proofs.Queue.{numbered-on}
use Rattle.pc_cache_history.proofs.laws.numbers_come_once.Goals as goal

pub returns : goal.returns
returns c = numbered-on
