use Rattle.std.proofs.Common.{◌≡◌, List, ℕ, IfOk, ap, ◌∙◌, subst, arith}
use Rattle.pc_message.specs.Header.{trimmed}
use Rattle.pc_message.proofs.Feeds.{is_line-cut}
use Rattle.pc_message.proofs.Texts.{field_text-cut}
use Rattle.pc_message.proofs.descriptor.cut_text.Goals as goal

pub of-requires : goal.of-requires
of-requires c =
    let whole = c.in_ok-whole.whole.items in
    is_line-cut whole c.trimmed-text.result.now c.min.result c.in_ok-whole.ensures.whole (c.trimmed-text.ensures ∙ ap trimmed c.deref.ensures.value) (omega (arith, c.min.ensures))

pub returns : goal.returns
returns c =
    let whole = c.in_ok-whole.whole.items in
    let cut = field_text-cut c.args.field.now.line.now c.args.field.now.folded.now whole c.trimmed-text.result.now c.min.result c.in_ok-whole.ensures.text (c.trimmed-text.ensures ∙ ap trimmed c.deref.ensures.value) c.min.ensures in
    subst (λ (bytes : List ℕ). IfOk c.of.result (λ line. line ≡ bytes)) cut c.of.ensures
