-- What is known alike goes on alike.
use Rattle.std.proofs.Common.{refl, sym}
use Rattle.pc_account_history.specs.History.{◌▸▸◌}
use Rattle.pc_account_history.specs.Laws.{folded}
use Rattle.pc_account_history.proofs.Alike.{AnswerAlike-known}
use Rattle.pc_account_history.proofs.Within.{IsCanonical-legal}
use Rattle.pc_account_history.proofs.Histories.{Stands-legal, known-behind, IsLegal-behind, record_of-behind}
use Rattle.pc_account_history.proofs.laws.record_in_place_of_history.Goals as goal

pub returns : goal.returns
returns c = λ h legal es.
    let alike = (Stands-legal h legal).alike in (
      AnswerAlike-known (h ▸▸ es) (folded h ▸▸ es) (known-behind h (folded h) es alike),
      (IsLegal-behind h (folded h) es alike (λ _. IsCanonical-legal h legal), IsLegal-behind (folded h) h es (sym alike) (λ _. legal)),
      record_of-behind h (folded h) es refl refl,
    )
