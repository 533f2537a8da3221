use Rattle.std.proofs.Common.{List, is_some, ap, ◌∙◌}
use Rattle.pc_message.specs.declared.descriptor.Descriptor.{Descriptor}
use Rattle.pc_cache_history.specs.Record.{descriptor_at}
use Rattle.pc_cache.proofs.Places.{place-found, has_at, has-at}
use Rattle.pc_cache.proofs.descriptors.Descriptors.has.Goals as goal

pub returns : goal.returns
returns c =
    let items = c.self.inside.descriptors.items in
    let place = place-found c.args.uid c.count_below-place.result c.deref.result.now items c.deref.ensures.value c.count_below-place.ensures.front c.count_below-place.ensures.back in
    c.is_at.ensures
    ∙ ap (has_at c.args.uid c.count_below-place.result) c.deref-2.ensures.value
    ∙ has-at c.args.uid c.count_below-place.result items c.self.invariant place
    ∙ ap (λ (l : List Descriptor). is_some (descriptor_at c.args.uid l)) c.self.view_is
