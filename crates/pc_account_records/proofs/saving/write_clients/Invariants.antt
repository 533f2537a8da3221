use Rattle.std.proofs.Common.{◌≡◌, ◌++◌}
use Rattle.std.specs.List.{flat_map, concat}
use Rattle.pc_account_spelling.specs.Spelling.{client_fields}
use Rattle.pc_account_records.proofs.saving.write_clients.Given as goal

-- the clients that are left make the list whole
abbrev pub invariant-loop-name : goal.invariant-loop-name
invariant-loop-name l = l.out ++ concat (flat_map client_fields l.name-iterator) ≡ l.initial.out ++ concat (flat_map client_fields l.clients.entries)
