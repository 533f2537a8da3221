use Rattle.std.proofs.Common.{◌≡◌, ◌++◌, take}
use Rattle.std.specs.List.{filter_map}
use Rattle.pc_cache_history.specs.Entry.{shown_by}
use Rattle.pc_cache.proofs.descriptors.put_behind.Given as goal

-- those that the changes so far show are behind the others
abbrev pub invariant-loop-change : goal.invariant-loop-change
invariant-loop-change l = l.all.items ≡ l.initial.all.items ++ filter_map shown_by (take l.change-index l.changes)
