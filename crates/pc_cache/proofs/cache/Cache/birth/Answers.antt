use Rattle.std.proofs.Common.{ap, ◌∙◌}
use Rattle.pc_cache_history.specs.Record.{CacheRecord}
use Rattle.pc_cache_history.specs.Known.{Known}
use Rattle.pc_cache.proofs.Standing.{said_is_known}
use Rattle.pc_cache.proofs.cache.Cache.birth.Goals as goal

pub returns-clause-history : goal.returns-clause-history
returns-clause-history c = λ h stands. c.birth.ensures ∙ ap (λ (r : CacheRecord). r.birth) c.self.view_is ∙ ap (λ (k : Known). k.birth) (said_is_known c.args.self.now h stands)
