use Rattle.std.proofs.Common.{◌≡◌, ◌++◌, map, drop}
use Rattle.pc_message.specs.declared.descriptor.Change.TheVariants.{Present}
use Rattle.pc_cache_history.specs.View.{laid_over}
use Rattle.pc_cache.proofs.cache.Cache.view.Given as goal

-- what is shown so far, and what is still to come
abbrev pub invariant-loop-descriptor : goal.invariant-loop-descriptor
invariant-loop-descriptor l = l.changes ++ map Present (map (laid_over l.mailbox l.items.items) (drop l.descriptor-index l.descriptor-items)) ≡ map Present (map (laid_over l.mailbox l.items.items) l.descriptor-items)
