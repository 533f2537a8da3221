use Rattle.std.proofs.Common.{◌∙◌, sym, ap, not, ◌&&◌}
use Rattle.pc_tables.specs.Table.{same}
use Rattle.pc_cache_history.specs.Allowed.{are_different}
use Rattle.pc_cache.proofs.Apart.{behind, names-step}
use Rattle.pc_cache.proofs.differing.stand_apart.Goals as goal

pub returns-then-contains : goal.returns-then-contains
returns-then-contains c =
    let rest = c.loop-rest.rest.now in
    sym (c.loop-rest.invariant ∙ names-step c.name-item.result rest c.contains.result c.in-len1-up.len_at_least c.name-item.is c.contains.ensures.value ∙ ap (λ found. not found && are_different same (behind rest)) c.if-contains.true)

pub loop-rest-preserved : goal.loop-rest-preserved
loop-rest-preserved c =
    let rest = c.loop-rest.rest.now in
    c.loop-rest.invariant ∙ names-step c.name-item.result rest c.contains.result c.in-len1-up.len_at_least c.name-item.is c.contains.ensures.value ∙ ap (λ found. not found && are_different same (behind rest)) c.if-contains.false
