use Rattle.std.proofs.Common.{[], ◌∷◌, codes, Some, sym, ap, ◌∙◌}
use Rattle.std.proofs.lemmas.Bool.{false≢true}
use Rattle.pc_reply.specs.Items.{gone_text}
use Rattle.pc_reply.proofs.WordTexts.{gone_words}
use Rattle.pc_reply.proofs.first_line.read_gone.Goals as goal

pub returns-in_default-clause-every : goal.returns-in_default-clause-every
returns-in_default-clause-every c = λ uid is.
    absurd (c.in_default.ensures uid (codes "EXPUNGED" ∷ []) is.1 (gone_words c.args.line.now uid is))

pub returns-then-not-is_line-clause-every : goal.returns-then-not-is_line-clause-every
returns-then-not-is_line-clause-every c = λ uid is.
    let found = c.in-Some.ensures uid (codes "EXPUNGED" ∷ []) is.1 (gone_words c.args.line.now uid is) in
    absurd (false≢true (c.if-not-is_line.ensures.1 (c.gone_text.ensures ∙ ap gone_text found.0 ∙ sym is.0)))

pub returns-clause-every : goal.returns-clause-every
returns-clause-every c = λ uid is.
    let found = c.in-Some.ensures uid (codes "EXPUNGED" ∷ []) is.1 (gone_words c.args.line.now uid is) in
    ap Some found.0
