use Rattle.std.proofs.Common.{◌≡◌, ◌++◌}
use Rattle.std.specs.List.{flat_map, concat}
use Rattle.pc_account_spelling.specs.Spelling.{listed_fields}
use Rattle.pc_mailbox.specs.UpdateList.{changes_of}
use Rattle.pc_account_records.proofs.saving.write_changes.Given as goal

-- the changes that are left make the list whole
abbrev pub invariant-loop-uid : goal.invariant-loop-uid
invariant-loop-uid l = l.out ++ concat (flat_map listed_fields (changes_of l.uid-iterator)) ≡ l.fn.out ++ concat (flat_map listed_fields l.list)
