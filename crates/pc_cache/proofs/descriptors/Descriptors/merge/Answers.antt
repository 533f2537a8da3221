use Rattle.std.proofs.Common.{◌≡◌, ◌++◌, List, rules, ap, ◌∙◌, subst}
use Rattle.std.specs.Prelude.{IsPermutation}
use Rattle.std.specs.List.{filter_map}
use Rattle.std.proofs.lemmas.List.Sorted.{IsNonDecreasingBy-from_sort_by_key}
use Rattle.pc_message.specs.declared.descriptor.Descriptor.{Descriptor}
use Rattle.pc_cache_history.specs.Entry.{shown_by}
use Rattle.pc_cache_history.specs.Effect.{with_changes}
use Rattle.pc_cache.specs.Places.{unnamed}
use Rattle.pc_cache.proofs.Merging.{merged, merged-rising}
use Rattle.pc_cache.proofs.descriptors.Descriptors.merge.Goals as goal

pub invariant_of-self-2 : goal.invariant_of-self-2
invariant_of-self-2 c =
    let items = c.self.inside.descriptors.items in
    let changes = c.args.changes.now in
    let was : c.replace-all.result.items ≡ items = ap (λ v. v.items) c.replace-all.ensures.value in
    let both : c.put_behind.new.all.items ≡ unnamed changes items ++ filter_map shown_by changes = c.in_ok-put_behind.ensures ∙ ap (λ (l : List Descriptor). l ++ filter_map shown_by changes) (c.in_ok-take_away.ensures ∙ ap (unnamed changes) was) in
    let moves = subst (λ (l : List Descriptor). IsPermutation l c.sort_by_key.new.self.items) both c.sort_by_key.ensures.permutation in
    let up = IsNonDecreasingBy-from_sort_by_key (λ (descriptor : Descriptor). descriptor.uid) c.sort_by_key.new.self.items c.in_ok-sort_by_key.ensures.sorted (λ a r q k. search rules) in
    merged-rising changes items c.self.invariant c.requires c.sort_by_key.new.self.items moves up

pub returns : goal.returns
returns c =
    let items = c.self.inside.descriptors.items in
    let changes = c.args.changes.now in
    let was : c.replace-all.result.items ≡ items = ap (λ v. v.items) c.replace-all.ensures.value in
    let both : c.put_behind.new.all.items ≡ unnamed changes items ++ filter_map shown_by changes = c.in_ok-put_behind.ensures ∙ ap (λ (l : List Descriptor). l ++ filter_map shown_by changes) (c.in_ok-take_away.ensures ∙ ap (unnamed changes) was) in
    let moves = subst (λ (l : List Descriptor). IsPermutation l c.sort_by_key.new.self.items) both c.sort_by_key.ensures.permutation in
    let up = IsNonDecreasingBy-from_sort_by_key (λ (descriptor : Descriptor). descriptor.uid) c.sort_by_key.new.self.items c.in_ok-sort_by_key.ensures.sorted (λ a r q k. search rules) in
    merged changes items c.self.invariant c.requires c.sort_by_key.new.self.items moves up ∙ ap (with_changes changes) c.self.view_is
