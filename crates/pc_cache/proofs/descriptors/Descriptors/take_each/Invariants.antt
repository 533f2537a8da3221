use Rattle.std.proofs.Common.{◌≡◌, drop}
use Rattle.pc_cache_history.specs.Effect.{with_changes}
use Rattle.pc_cache.proofs.descriptors.Descriptors.take_each.Given as goal

-- with the changes still to come it is what it becomes
abbrev pub invariant-loop-change : goal.invariant-loop-change
invariant-loop-change l = with_changes (drop l.change-index l.changes) l.self ≡ with_changes l.changes l.initial.self
