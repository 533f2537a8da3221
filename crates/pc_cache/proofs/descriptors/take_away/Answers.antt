use Rattle.std.proofs.Common.{not, rules}
use Rattle.std.proofs.lemmas.Fn.{filter_same}
use Rattle.pc_message.specs.declared.descriptor.Descriptor.{Descriptor}
use Rattle.pc_cache_history.specs.Laws.{is_named}
use Rattle.pc_cache.proofs.descriptors.take_away.Goals as goal

pub returns : goal.returns
returns c =
    let named = c.in_ok-named.named.keys in
    filter_same _ (λ (descriptor : Descriptor). not (is_named descriptor.uid c.args.changes.now)) _ (λ x b f' k. search (rules, c.in_ok-named.ensures)) _ _ c.retain.ensures.filtered
