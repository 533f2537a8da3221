use Rattle.std.proofs.Common.{ℕ, List, ap, ◌∙◌, subst}
use Rattle.pc_message.specs.Collecting.{NameOutcome}
use Rattle.pc_message.specs.Recipients.{without_host}
use Rattle.pc_message.proofs.Named.{address_of-built}
use Rattle.pc_message.proofs.addresses.name_of.Goals as goal

pub returns : goal.returns
returns c =
    let built = address_of-built c.args.item.now _ _ _ _ c.bracketed.ensures c.trimmed.ensures c.in-Ok.ensures.ok (c.without_host.ensures ∙ ap without_host c.deref.ensures.value) in
    subst (λ (address : List ℕ). NameOutcome address c.read_name.result) built c.read_name.ensures
