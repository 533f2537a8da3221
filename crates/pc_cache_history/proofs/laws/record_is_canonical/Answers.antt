use Rattle.pc_cache_history.proofs.Histories.{IsCanonical-legal}
use Rattle.pc_cache_history.proofs.laws.record_is_canonical.Goals as goal

pub returns : goal.returns
returns c = IsCanonical-legal
