use Rattle.std.proofs.Common.{◌≡◌, ◌++◌, map}
use Rattle.pc_account.specs.Answers.{row_in}
use Rattle.pc_account.proofs.answering.mailbox_rows.Given as goal

-- the rows so far, and those still to come
abbrev pub invariant-loop-name : goal.invariant-loop-name
invariant-loop-name l = l.rows ++ map row_in l.name-iterator ≡ map row_in l.initial.name-iterator
