use Rattle.std.proofs.Common.{ap, ◌∙◌}
use Rattle.pc_cache_history.specs.Known.{Known, said_by}
use Rattle.pc_cache_history.specs.Record.{CacheRecord}
use Rattle.pc_cache_history.specs.Allowed.{is_allowed}
use Rattle.pc_cache.proofs.Standing.{said_is_known}
use Rattle.pc_cache.proofs.cache.Cache.allows.Goals as goal

pub returns-clause-history : goal.returns-clause-history
returns-clause-history c = λ h stands. c.is_allowed.ensures ∙ ap (λ (r : CacheRecord). is_allowed (said_by r) c.args.entry.now) c.self.view_is ∙ ap (λ (k : Known). is_allowed k c.args.entry.now) (said_is_known c.args.self.now h stands)
