use Rattle.std.proofs.Common.{ap, ◌∙◌}
use Rattle.std.specs.Map.{keys_of}
use Rattle.pc_cache_history.specs.Record.{CacheRecord}
use Rattle.pc_cache_history.specs.Known.{Known}
use Rattle.pc_cache.proofs.Standing.{said_is_known}
use Rattle.pc_cache.proofs.cache.Cache.mailboxes.Goals as goal

pub returns-clause-history : goal.returns-clause-history
returns-clause-history c = λ h stands. c.names.ensures ∙ ap keys_of c.mailboxes.ensures ∙ ap (λ (r : CacheRecord). keys_of r.mailboxes) c.self.view_is ∙ ap (λ (k : Known). k.mailboxes) (said_is_known c.args.self.now h stands)
