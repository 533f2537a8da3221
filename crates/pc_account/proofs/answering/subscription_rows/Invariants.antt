use Rattle.std.proofs.Common.{◌≡◌, ◌++◌, map}
use Rattle.pc_account.specs.Answers.{subscription_row}
use Rattle.pc_account.proofs.answering.subscription_rows.Given as goal

-- the rows so far, and those still to come
abbrev pub invariant-loop-board : goal.invariant-loop-board
invariant-loop-board l = l.rows ++ map subscription_row l.board-iterator ≡ map subscription_row l.initial.board-iterator
