use Rattle.std.proofs.Common.{◌≡◌, ◌++◌, drop}
use Rattle.std.specs.List.{flat_map, concat}
use Rattle.pc_account_spelling.specs.Spelling.{update_list_fields}
use Rattle.pc_account_records.proofs.saving.write_lists.Given as goal

-- the lists that are left make the whole
abbrev pub invariant-loop-entry : goal.invariant-loop-entry
invariant-loop-entry l = l.out ++ concat (flat_map update_list_fields (drop l.entry-index l.lists)) ≡ l.initial.out ++ concat (flat_map update_list_fields l.lists)
