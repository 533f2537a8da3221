use Rattle.pc_cache_history.proofs.Queue.{numbered}
use Rattle.pc_cache_history.proofs.laws.numbers_rise.Goals as goal

pub returns : goal.returns
returns c = numbered
