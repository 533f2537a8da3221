use Rattle.std.proofs.Common.{◌≡◌, ◌++◌}
use Rattle.pc_office_records.specs.ReadKept.{rows_in}
use Rattle.pc_office_records.proofs.loading.kept.rows_of.Given as goal

-- the users that are left make the rows whole
abbrev pub invariant-loop-user : goal.invariant-loop-user
invariant-loop-user l = l.rows.items ++ rows_in l.targets l.user-iterator ≡ rows_in l.targets l.users
