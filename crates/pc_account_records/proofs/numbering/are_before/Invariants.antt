use Rattle.std.proofs.Common.{◌≡◌}
use Rattle.pc_mailbox.specs.UpdateList.{changes_of}
use Rattle.pc_account_records.specs.Numbered.{are_before}
use Rattle.pc_account_records.proofs.numbering.are_before.Given as goal

-- those that are left decide
abbrev pub invariant-loop-stamp : goal.invariant-loop-stamp
invariant-loop-stamp l = are_before l.first (changes_of l.stamp-iterator) ≡ are_before l.first l.list
