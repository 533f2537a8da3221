-- The record says what is known.
use Rattle.std.proofs.Common.{refl}
use Rattle.pc_cache_history.specs.Laws.{folded}
use Rattle.pc_cache_history.proofs.Histories.{Stands-legal, AnswerAlike-known}
use Rattle.pc_cache_history.proofs.laws.record_answers_as_history.Goals as goal

pub returns : goal.returns
returns c = λ h legal. AnswerAlike-known h (folded h) refl (Stands-legal h legal).alike
