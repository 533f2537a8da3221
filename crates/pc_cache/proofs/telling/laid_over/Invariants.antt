use Rattle.std.proofs.Common.{◌≡◌, ◌≤◌, drop}
use Rattle.std.specs.List.{AllByRecursion}
use Rattle.pc_cache_history.specs.declared.item.Item.{Item}
use Rattle.pc_cache_history.specs.View.{flags_over}
use Rattle.pc_cache.proofs.telling.laid_over.Given as goal

-- the changes still to come make of the flags so far what all make of them
abbrev pub invariant-loop-item : goal.invariant-loop-item
invariant-loop-item l = record {
  laid : flags_over l.mailbox l.uid (drop l.item-index l.items) l.shown ≡ flags_over l.mailbox l.uid l.items l.initial.shown;
  flags : AllByRecursion (λ (item : Item). item.flag ≤ 15) (drop l.item-index l.items);
}
