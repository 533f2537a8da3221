-- The record says what is known.
use Rattle.pc_account_history.specs.Laws.{folded}
use Rattle.pc_account_history.proofs.Alike.{AnswerAlike-known}
use Rattle.pc_account_history.proofs.Histories.{Stands-legal}
use Rattle.pc_account_history.proofs.laws.record_answers_as_history.Goals as goal

pub returns : goal.returns
returns c = λ h legal. AnswerAlike-known h (folded h) (Stands-legal h legal).alike
