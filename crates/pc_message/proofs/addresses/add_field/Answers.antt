use Rattle.std.proofs.Common.{ℕ, List, sym, ap, ◌∙◌, subst}
use Rattle.pc_message.specs.Collecting.{AddsOutcome}
use Rattle.pc_message.specs.Header.{trimmed}
use Rattle.pc_message.specs.Recipients.{is_recipient_field}
use Rattle.pc_message.proofs.Fields.{field_addresses-text}
use Rattle.pc_message.proofs.Texts.{field_text-built}
use Rattle.pc_message.proofs.addresses.add_field.Goals as goal

pub returns : goal.returns
returns c =
    let line = c.args.field.now.line.now in
    let folded = c.args.field.now.folded.now in
    let text = field_text-built line folded _ _ c.in-Ok.ensures.text (c.trimmed.ensures ∙ ap trimmed c.deref.ensures.value) in
    let named = ap is_recipient_field (sym c.bytes.ensures.value) ∙ sym c.is_recipient_field.ensures ∙ c.if-not-is_recipient_field.false in
    let same = field_addresses-text line _ folded named text in
    subst (λ (addresses : List (List ℕ)). AddsOutcome c.args.names.now addresses c.add_text.new.names c.add_text.result) same c.add_text.ensures
