use Rattle.std.proofs.Common.{◌≡◌, ℕ, List, nat_lt, map, length, ap, ◌∙◌, subst}
use Rattle.std.specs.Prelude.{IsPermutation}
use Rattle.std.proofs.lemmas.List.{take_all}
use Rattle.std.proofs.lemmas.List.Sorted.{IsNonDecreasingBy-from_sort}
use Rattle.pc_message.specs.declared.descriptor.Change.{Change}
use Rattle.pc_cache_history.specs.Entry.{uid_of}
use Rattle.pc_cache.specs.Rising.{rise}
use Rattle.pc_cache.proofs.Rises.{refilled}
use Rattle.pc_cache.proofs.Orders.{sorted-numbers}
use Rattle.pc_cache.proofs.differing.differ_in_order.Goals as goal

pub returns : goal.returns
returns c =
    let changes = c.args.changes.now in
    let all : c.deref_mut.result.now ≡ map uid_of changes = c.deref_mut.ensures.value ∙ c.loop-change.invariant.0 ∙ ap (λ (l : List Change). map uid_of l) (take_all c.loop-change.change-index changes c.loop-change-test.false) in
    let moves = subst (λ (l : List ℕ). IsPermutation l c.sort_unstable.new.self) all c.sort_unstable.ensures.permutation in
    let up = IsNonDecreasingBy-from_sort (λ (n : ℕ). n) c.sort_unstable.new.self c.sort_unstable.ensures.sorted in
    c.numbers_rise.ensures ∙ ap (rise nat_lt) (c.as_slice.ensures.value ∙ refilled c.loop-change.uids.items c.sort_unstable.new.self (c.sort_unstable.ensures.len ∙ ap (λ (l : List ℕ). length l) c.deref_mut.ensures.value)) ∙ sorted-numbers (map uid_of changes) c.sort_unstable.new.self moves up
