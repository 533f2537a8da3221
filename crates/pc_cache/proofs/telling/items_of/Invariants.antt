use Rattle.std.proofs.Common.{◌≡◌, filter, take}
use Rattle.pc_cache.specs.Shown.{is_of}
use Rattle.pc_cache.proofs.telling.items_of.Given as goal

-- those of the changes so far
abbrev pub invariant-loop-item : goal.invariant-loop-item
invariant-loop-item l = l.items.items ≡ filter (is_of l.mailbox) (take l.item-index l.queue)
