use Rattle.std.proofs.Common.{◌∙◌, ◌==◌, sym, ap, not, ◌&&◌, map}
use Rattle.std.specs.List.{list_any}
use Rattle.pc_message.specs.declared.descriptor.Change.{Change}
use Rattle.pc_cache_history.specs.Entry.{uid_of}
use Rattle.pc_cache_history.specs.Allowed.{are_different}
use Rattle.pc_cache.proofs.Apart.{behind, uids-step}
use Rattle.pc_cache.proofs.differing.are_apart.Goals as goal

pub returns-then-is_named : goal.returns-then-is_named
returns-then-is_named c =
    let rest = c.loop-rest.rest.now in
    let found = c.is_named.ensures ∙ ap (λ uid. list_any (λ (other : Change). uid == uid_of other) (behind rest)) c.uid_of.ensures in
    sym (c.loop-rest.invariant ∙ uids-step c.change-item.result rest c.is_named.result c.in-len1-up.len_at_least c.change-item.is found ∙ ap (λ found. not found && are_different ◌==◌ (map uid_of (behind rest))) c.if-is_named.true)

pub loop-rest-preserved : goal.loop-rest-preserved
loop-rest-preserved c =
    let rest = c.loop-rest.rest.now in
    let found = c.is_named.ensures ∙ ap (λ uid. list_any (λ (other : Change). uid == uid_of other) (behind rest)) c.uid_of.ensures in
    c.loop-rest.invariant ∙ uids-step c.change-item.result rest c.is_named.result c.in-len1-up.len_at_least c.change-item.is found ∙ ap (λ found. not found && are_different ◌==◌ (map uid_of (behind rest))) c.if-is_named.false
