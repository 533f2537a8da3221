use Rattle.std.proofs.Common.{sym, ap, ◌∙◌, subst}
use Rattle.pc_cache_history.specs.Effect.{with_descriptor}
use Rattle.pc_cache_history.specs.Legal.{AreRising}
use Rattle.pc_cache_history.proofs.Descriptors.{rising-placed}
use Rattle.pc_cache.proofs.Places.{place-found, has_at, set-there, insert-there}
use Rattle.pc_cache.proofs.descriptors.Descriptors.put.Goals as goal

pub invariant_of-self : goal.invariant_of-self
invariant_of-self c =
    let items = c.self.inside.descriptors.items in
    let at = c.count_below-place.result in
    let place = place-found c.args.new.uid at c.deref.result.now items c.deref.ensures.value c.count_below-place.ensures.front c.count_below-place.ensures.back in
    let there = ap (has_at c.args.new.uid at) (sym c.deref-2.ensures.value) ∙ sym c.is_at.ensures ∙ c.if-is_at.true in
    subst AreRising (sym (set-there c.args.new at items c.self.invariant place there)) (rising-placed c.args.new items c.self.invariant)

pub returns-then-is_at-clause-ok : goal.returns-then-is_at-clause-ok
returns-then-is_at-clause-ok c =
    let items = c.self.inside.descriptors.items in
    let at = c.count_below-place.result in
    let place = place-found c.args.new.uid at c.deref.result.now items c.deref.ensures.value c.count_below-place.ensures.front c.count_below-place.ensures.back in
    let there = ap (has_at c.args.new.uid at) (sym c.deref-2.ensures.value) ∙ sym c.is_at.ensures ∙ c.if-is_at.true in
    set-there c.args.new at items c.self.invariant place there ∙ ap (with_descriptor c.args.new) c.self.view_is

pub invariant_of-self-2 : goal.invariant_of-self-2
invariant_of-self-2 c =
    let items = c.self.inside.descriptors.items in
    let at = c.count_below-place.result in
    let place = place-found c.args.new.uid at c.deref.result.now items c.deref.ensures.value c.count_below-place.ensures.front c.count_below-place.ensures.back in
    let other = ap (has_at c.args.new.uid at) (sym c.deref-2.ensures.value) ∙ sym c.is_at.ensures ∙ c.if-is_at.false in
    subst AreRising (sym (c.in_ok-insert.ensures.items ∙ insert-there c.args.new at items c.self.invariant place other)) (rising-placed c.args.new items c.self.invariant)

pub returns-clause-ok : goal.returns-clause-ok
returns-clause-ok c =
    let items = c.self.inside.descriptors.items in
    let at = c.count_below-place.result in
    let place = place-found c.args.new.uid at c.deref.result.now items c.deref.ensures.value c.count_below-place.ensures.front c.count_below-place.ensures.back in
    let other = ap (has_at c.args.new.uid at) (sym c.deref-2.ensures.value) ∙ sym c.is_at.ensures ∙ c.if-is_at.false in
    c.in_ok-insert.ensures.items ∙ insert-there c.args.new at items c.self.invariant place other ∙ ap (with_descriptor c.args.new) c.self.view_is
