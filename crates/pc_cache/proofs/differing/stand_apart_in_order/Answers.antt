use Rattle.std.proofs.Common.{◌≡◌, ℕ, List, map, length, rules, ap, ◌∙◌, subst}
use Rattle.std.specs.Prelude.{IsPermutation}
use Rattle.std.proofs.lemmas.Fn.{always_returns_same}
use Rattle.std.proofs.lemmas.List.{take_all}
use Rattle.pc_cache.specs.Rising.{name_at, is_before_at, rise}
use Rattle.pc_cache.proofs.Rises.{refilled}
use Rattle.pc_cache.proofs.Orders.{sorted-places}
use Rattle.pc_cache.proofs.differing.stand_apart_in_order.Goals as goal

pub returns : goal.returns
returns c =
    let names = c.args.names.now in
    let any = c.any-item.result in
    let places = c.loop-place.places.items in
    let all : map (name_at names any) places ≡ names = c.loop-place.invariant.0 ∙ take_all c.loop-place.place names c.loop-place-test.false in
    let moves = subst (λ (l : List ℕ). IsPermutation l c.sort_unstable_by_key.new.self) c.deref_mut.ensures.value c.sort_unstable_by_key.ensures.permutation in
    let up = c.sort_unstable_by_key.ensures.sorted (name_at names any) (always_returns_same _ (λ a r. r ≡ name_at names any a.0.now) _ (λ a r q k. search rules)) in
    c.places_rise.ensures ∙ ap (rise (is_before_at names any)) (c.as_slice.ensures.value ∙ refilled places c.sort_unstable_by_key.new.self (c.sort_unstable_by_key.ensures.len ∙ ap (λ (l : List ℕ). length l) c.deref_mut.ensures.value)) ∙ sorted-places names any places c.sort_unstable_by_key.new.self all moves up
