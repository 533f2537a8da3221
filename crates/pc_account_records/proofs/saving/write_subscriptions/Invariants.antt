use Rattle.std.proofs.Common.{◌≡◌, ◌++◌}
use Rattle.std.specs.List.{flat_map, concat}
use Rattle.pc_account_spelling.specs.Spelling.{subscription_fields}
use Rattle.pc_account_records.proofs.saving.write_subscriptions.Given as goal

-- the subscriptions that are left make the list whole
abbrev pub invariant-loop-board : goal.invariant-loop-board
invariant-loop-board l = l.out ++ concat (flat_map subscription_fields l.board-iterator) ≡ l.initial.out ++ concat (flat_map subscription_fields l.subscriptions.entries)
