use Rattle.std.proofs.Common.{◌≡◌, ◌++◌, drop}
use Rattle.std.specs.List.{flat_map, concat}
use Rattle.pc_account_spelling.specs.Spelling.{kept_fields}
use Rattle.pc_account_records.proofs.saving.write_each_message.Given as goal

-- the messages that are left make the list whole
abbrev pub invariant-loop-kept : goal.invariant-loop-kept
invariant-loop-kept l = l.out ++ concat (flat_map kept_fields (drop l.kept-index l.messages)) ≡ l.fn.out ++ concat (flat_map kept_fields l.messages)
