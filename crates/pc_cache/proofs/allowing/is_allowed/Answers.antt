use Rattle.std.proofs.Common.{◌≡◌, List, sym, ap, ◌∙◌, subst}
use Rattle.pc_message.specs.declared.descriptor.Change.{Change}
use Rattle.pc_cache_history.specs.declared.entry.CacheEntry.{CacheEntry}
use Rattle.pc_cache_history.specs.declared.entry.CacheEntry.TheVariants.{Took}
use Rattle.pc_cache_history.specs.Known.{said_by}
use Rattle.pc_cache_history.specs.Allowed.{is_allowed}
use Rattle.pc_cache.proofs.allowing.is_allowed.Goals as goal

pub returns-in-Took : goal.returns-in-Took
returns-in-Took c =
    let k = said_by c.args.holdings.now in
    subst (λ (entry : CacheEntry). c.may_take.result ≡ is_allowed k entry) (sym c.in-Took.is) (c.may_take.ensures ∙ ap (λ (changes : List Change). is_allowed k (Took c.in-Took.mailbox changes)) c.as_slice.ensures)
