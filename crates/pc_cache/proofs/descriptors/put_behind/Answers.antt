use Rattle.std.proofs.Common.{List, [], ◌++◌, ap, sym, ◌∙◌, append_assoc, take}
use Rattle.std.specs.List.{cons_option, filter_map}
use Rattle.pc_message.specs.declared.descriptor.Descriptor.{Descriptor}
use Rattle.pc_cache_history.specs.Entry.{shown_by}
use Rattle.pc_cache.proofs.Merging.{shown-more}
use Rattle.pc_cache.proofs.descriptors.put_behind.Goals as goal

pub loop-change-preserved : goal.loop-change-preserved
loop-change-preserved c =
    let changes = c.args.changes.now in
    let i = c.loop-change.change-index in
    let change = c.change-item.result in
    c.in_ok-put_shown.ensures
    ∙ ap (λ (front : List Descriptor). front ++ cons_option (shown_by change) []) c.loop-change.invariant
    ∙ append_assoc _ (filter_map shown_by (take i changes)) (cons_option (shown_by change) [])
    ∙ ap (λ (shown : List Descriptor). c.args.all.now.items ++ shown) (sym (shown-more changes i change c.loop-change-test.true (sym c.change-item.is)))
