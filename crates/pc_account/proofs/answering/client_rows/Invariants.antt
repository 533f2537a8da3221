use Rattle.std.proofs.Common.{◌≡◌, ◌++◌, map}
use Rattle.pc_account.specs.Answers.{client_row}
use Rattle.pc_account.proofs.answering.client_rows.Given as goal

-- the rows so far, and those still to come
abbrev pub invariant-loop-name : goal.invariant-loop-name
invariant-loop-name l = l.rows ++ map client_row l.name-iterator ≡ map client_row l.initial.name-iterator
