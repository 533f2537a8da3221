use Rattle.std.proofs.Common.{◌≡◌, ℕ, ◌==◌, ◌||◌, drop}
use Rattle.std.specs.List.{list_any}
use Rattle.pc_cache_history.specs.Laws.{is_named}
use Rattle.pc_cache.proofs.descriptors.named_in.Given as goal

-- the uids so far, and those of the changes still to come
abbrev pub invariant-loop-change : goal.invariant-loop-change
invariant-loop-change l = (uid : ℕ) → (list_any (λ other. uid == other) l.named.keys || is_named uid (drop l.change-index l.changes)) ≡ is_named uid l.changes
