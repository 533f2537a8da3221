-- Calls after which nothing has changed, one after another.
use Rattle.std.proofs.Common.{◌∙◌, ℕ, refl}
use Rattle.pc_disk.specs.Images.{Images}
use Rattle.pc_disk.specs.Outcomes.{IsStill}

pub still-same : (seen : Images) (left : Images → Type 0) (past : ℕ → Images → Type 0) → IsStill seen seen left left past past
still-same seen left past = record {
  seen = refl;
  leaves = λ images may. may;
  left = λ images may. may;
  nothing_else = λ moment images since. since;
  keeps = λ moment images since. since;
}

pub still-again : (seen seen' seen'' : Images) (left left' left'' : Images → Type 0) (past past' past'' : ℕ → Images → Type 0)
    → IsStill seen seen' left left' past past' → IsStill seen' seen'' left' left'' past' past'' → IsStill seen seen'' left left'' past past''
still-again seen seen' seen'' left left' left'' past past' past'' first second = record {
  seen = second.seen ∙ first.seen;
  leaves = λ images may. first.leaves images (second.leaves images may);
  left = λ images may. second.left images (first.left images may);
  nothing_else = λ moment images since. first.nothing_else moment images (second.nothing_else moment images since);
  keeps = λ moment images since. second.keeps moment images (first.keeps moment images since);
}
