use Rattle.std.proofs.Common.{[], ◌∷◌, ◌++◌, cond, Ok, refl, ap, ◌∙◌, sym}
use Rattle.std.proofs.lemmas.Result.{err_from_is_err_and}
use Rattle.pc_wire.specs.declared.body_feed.BodyStep.TheVariants.{Whole, TooLarge}
use Rattle.pc_wire.proofs.BodyFeedLemmas.{joined-is, wants, with_line-is, size_of-kept}
use Rattle.pc_wire.proofs.body_feed.BodyFeed.join.Goals as goal

pub returns-then-not-is_within : goal.returns-then-not-is_within
returns-then-not-is_within c =
    let with = with_line-is _ _ _ _ _ _ _ _ _ _ _ (sym c.replace.ensures.value ∙ c.in-Ok-Whole.is) c.in-Ok-Whole.field-0-is c.self.invariant c.from.ensures c.content-line.ensures c.as_slice.ensures c.is_within.ensures in
    (refl, joined-is _ _ _ _ _ _ c.self.view_is (with ∙ rw c.if-not-is_within.true refl))

pub returns-in_err-keep : goal.returns-in_err-keep
returns-in_err-keep c =
    let with = with_line-is _ _ _ _ _ _ _ _ _ _ _ (sym c.replace.ensures.value ∙ c.in-Ok-Whole.is) c.in-Ok-Whole.field-0-is c.self.invariant c.from.ensures c.content-line.ensures c.as_slice.ensures c.is_within.ensures in
    let kept = ap (λ t. Ok (cond t (Whole (c.in-Ok-Whole.lines ++ c.content-line.result.now ∷ [])) TooLarge)) c.if-not-is_within.false in
    let p = err_from_is_err_and c.from_residual.result c.from_residual.ensures.1 in
    rw (p.1, c.replace.ensures.after) (wants _ _ _ _ _ _ c.self.view_is (with ∙ kept))

pub invariant_of-self-2 : goal.invariant_of-self-2
invariant_of-self-2 c =
    size_of-kept _ _ _ _ _ _ _ (sym c.replace.ensures.value ∙ c.in-Ok-Whole.is) c.in-Ok-Whole.field-0-is c.self.invariant c.from.ensures c.in_ok-keep.ensures

pub returns : goal.returns
returns c =
    let with = with_line-is _ _ _ _ _ _ _ _ _ _ _ (sym c.replace.ensures.value ∙ c.in-Ok-Whole.is) c.in-Ok-Whole.field-0-is c.self.invariant c.from.ensures c.content-line.ensures c.as_slice.ensures c.is_within.ensures in
    (refl, joined-is _ _ _ _ _ _ c.self.view_is (with ∙ rw c.if-not-is_within.false (ap Ok (ap Whole (sym c.in_ok-keep.ensures)))))
