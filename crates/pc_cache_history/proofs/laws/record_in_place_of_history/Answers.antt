-- What is known alike goes on alike.
use Rattle.std.proofs.Common.{refl, sym}
use Rattle.pc_cache_history.specs.History.{◌▻▻◌}
use Rattle.pc_cache_history.specs.Laws.{folded}
use Rattle.pc_cache_history.proofs.Histories.{Stands-legal, IsCanonical-legal, AnswerAlike-known, known-behind, next-behind, IsLegal-behind, record_of-behind}
use Rattle.pc_cache_history.proofs.laws.record_in_place_of_history.Goals as goal

pub returns : goal.returns
returns c = λ h legal es.
    let alike = (Stands-legal h legal).alike in (
      AnswerAlike-known (h ▻▻ es) (folded h ▻▻ es) (next-behind h (folded h) es refl) (known-behind h (folded h) es alike),
      (IsLegal-behind h (folded h) es alike (λ _. IsCanonical-legal h legal), IsLegal-behind (folded h) h es (sym alike) (λ _. legal)),
      record_of-behind h (folded h) es refl,
    )
