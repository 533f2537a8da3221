use Rattle.std.proofs.Common.{◌≡◌}
use Rattle.pc_account_records.specs.Numbered.{are_mailboxes_before}
use Rattle.pc_account_records.proofs.numbering.are_mailboxes_before.Given as goal

-- those that are left decide
abbrev pub invariant-loop-name : goal.invariant-loop-name
invariant-loop-name l = are_mailboxes_before l.first l.name-iterator ≡ are_mailboxes_before l.first l.mailboxes
