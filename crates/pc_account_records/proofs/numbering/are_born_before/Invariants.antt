use Rattle.std.proofs.Common.{◌≡◌}
use Rattle.std.specs.List.{list_all}
use Rattle.pc_account_records.specs.Numbered.{is_born_before}
use Rattle.pc_account_records.proofs.numbering.are_born_before.Given as goal

-- those that are left decide
abbrev pub invariant-loop-birth : goal.invariant-loop-birth
invariant-loop-birth l = list_all (is_born_before l.first) l.birth-iterator ≡ list_all (is_born_before l.first) l.clients.entries
