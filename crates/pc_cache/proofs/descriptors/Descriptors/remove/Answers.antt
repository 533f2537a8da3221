use Rattle.std.proofs.Common.{sym, ap, ◌∙◌, subst, not, ◌==◌, ◌<◌}
use Rattle.pc_message.specs.declared.descriptor.Descriptor.{Descriptor}
use Rattle.pc_tables.proofs.Order.{Ordered-filter}
use Rattle.pc_cache_history.specs.Effect.{other_descriptors}
use Rattle.pc_cache_history.specs.Legal.{AreRising}
use Rattle.pc_cache.proofs.Places.{place-found, has_at, remove-there, none-there-to-remove}
use Rattle.pc_cache.proofs.descriptors.Descriptors.remove.Goals as goal

pub invariant_of-self : goal.invariant_of-self
invariant_of-self c =
    let items = c.self.inside.descriptors.items in
    let at = c.count_below-place.result in
    let place = place-found c.args.uid at c.deref.result.now items c.deref.ensures.value c.count_below-place.ensures.front c.count_below-place.ensures.back in
    let there = ap (has_at c.args.uid at) (sym c.deref-2.ensures.value) ∙ sym c.is_at.ensures ∙ c.if-is_at.true in
    subst AreRising (sym (c.remove.ensures.items ∙ remove-there c.args.uid at items c.self.invariant place there)) (Ordered-filter (λ (descriptor later : Descriptor). descriptor.uid < later.uid) (λ descriptor. not (descriptor.uid == c.args.uid)) items c.self.invariant)

pub returns-then-is_at : goal.returns-then-is_at
returns-then-is_at c =
    let items = c.self.inside.descriptors.items in
    let at = c.count_below-place.result in
    let place = place-found c.args.uid at c.deref.result.now items c.deref.ensures.value c.count_below-place.ensures.front c.count_below-place.ensures.back in
    let there = ap (has_at c.args.uid at) (sym c.deref-2.ensures.value) ∙ sym c.is_at.ensures ∙ c.if-is_at.true in
    c.remove.ensures.items ∙ remove-there c.args.uid at items c.self.invariant place there ∙ ap (other_descriptors c.args.uid) c.self.view_is

pub returns-else-is_at : goal.returns-else-is_at
returns-else-is_at c =
    let items = c.self.inside.descriptors.items in
    let at = c.count_below-place.result in
    let place = place-found c.args.uid at c.deref.result.now items c.deref.ensures.value c.count_below-place.ensures.front c.count_below-place.ensures.back in
    let other = ap (has_at c.args.uid at) (sym c.deref-2.ensures.value) ∙ sym c.is_at.ensures ∙ c.if-is_at.false in
    sym c.self.view_is ∙ none-there-to-remove c.args.uid at items c.self.invariant place other ∙ ap (other_descriptors c.args.uid) c.self.view_is
