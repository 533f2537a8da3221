use Rattle.std.proofs.Common.{◌≡◌, ◌++◌, map}
use Rattle.std.specs.List.{flat_map, concat}
use Rattle.pc_office_spelling.specs.RecordSpelling.{user_fields}
use Rattle.pc_office_holdings.specs.Held.{noted_of}
use Rattle.pc_office_records.proofs.saving.write_each_user.Given as goal

-- the users that are left make the list whole
abbrev pub invariant-loop-name : goal.invariant-loop-name
invariant-loop-name l = l.out ++ concat (flat_map user_fields (map noted_of l.name-iterator)) ≡ l.fn.out ++ concat (flat_map user_fields (map noted_of l.users))
