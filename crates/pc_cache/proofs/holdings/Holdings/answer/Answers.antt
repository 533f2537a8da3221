use Rattle.std.proofs.Common.{◌≡◌, ◌==◌, not, ap, ◌∙◌, rules}
use Rattle.std.proofs.lemmas.Fn.{filter_same}
use Rattle.pc_cache_history.specs.declared.item.Item.{Item}
use Rattle.pc_cache_history.specs.Effect.{other_items}
use Rattle.pc_cache_history.specs.Record.{CacheRecord}
use Rattle.pc_cache.proofs.holdings.Holdings.answer.Goals as goal

pub returns : goal.returns
returns c =
    let kept : c.retain.new.self.items ≡ other_items c.args.number c.args.self.now.queue = filter_same _ (λ (item : Item). not (item.number == c.args.number)) _ (λ x b f' k. search rules) _ _ c.retain.ensures.filtered ∙ ap (λ (r : CacheRecord). other_items c.args.number r.queue) c.self.view_is in
    λ i. record { birth = (c.self.view_is i).birth; resetting = (c.self.view_is i).resetting; mailboxes = (c.self.view_is i).mailboxes; last = (c.self.view_is i).last; queue = kept i }
