use Rattle.std.proofs.Common.{is_some, ap, ◌∙◌}
use Rattle.pc_cache_history.specs.Record.{CacheRecord, descriptor_at}
use Rattle.pc_cache_history.specs.Known.{Known, has}
use Rattle.pc_cache.specs.Mailboxes.{Table, found_in}
use Rattle.pc_cache.proofs.Standing.{said_is_known}
use Rattle.pc_cache.proofs.cache.Cache.has.Goals as goal

pub returns-clause-history : goal.returns-clause-history
returns-clause-history c = λ h stands.
    let asked = λ (table : Table). is_some (descriptor_at c.args.uid (found_in c.args.mailbox.now table)) in
    c.has.ensures ∙ ap asked c.mailboxes.ensures ∙ ap (λ (r : CacheRecord). asked r.mailboxes) c.self.view_is ∙ ap (λ (k : Known). has k c.args.mailbox.now c.args.uid) (said_is_known c.args.self.now h stands)
