-- A cache and the histories that it stands for.
use Rattle.std.specs.Prelude.{◌≡◌}
use Rattle.pc_cache_history.specs.Record.{CacheRecord}
use Rattle.pc_cache_history.specs.History.{History}
use Rattle.pc_cache_history.specs.Step.{record_of}
use Rattle.pc_cache_history.specs.Legal.{IsLegal}

-- the record is that of the cache at the end of a legal history
pub record StandsFor (cache : CacheRecord) (history : History) : Type 0 where
  pub legal : IsLegal history
  pub held : record_of history ≡ cache
