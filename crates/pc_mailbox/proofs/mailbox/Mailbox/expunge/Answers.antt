use Rattle.std.proofs.Common.{◌≡◌, ap, sym, ◌∙◌, arith, length, drop, refl}
use Rattle.pc_tables.proofs.Lists.{length-filter-le}
use Rattle.pc_mailbox.specs.Mailbox.{is_deleted, deleted, weight_of_all}
use Rattle.pc_mailbox.proofs.Holds.{IsMailbox-expunge, rise-deleted, few-remaining, short-take, whole, length-uids}
use Rattle.pc_mailbox.proofs.mailbox.Mailbox.expunge.Goals as goal

pub touch_for_all-requires : goal.touch_for_all-requires
touch_for_all-requires c = rw (c.deref-2.ensures.value, c.in_ok-gone.ensures, c.deref.ensures.value) (rise-deleted c.self.inside.highest c.self.inside.messages.items c.self.invariant.0.rising)

pub weight_of-self-inside-requires : goal.weight_of-self-inside-requires
weight_of-self-inside-requires c = rw (c.deref-3.ensures.value, c.drop_deleted.ensures) (few-remaining c.self.inside.messages.items c.self.invariant.0.few)

pub overflow_cast-result : goal.overflow_cast-result
overflow_cast-result c =
    let count = sym c.deref-2.ensures.len ∙ ap length (c.deref-2.ensures.value ∙ c.in_ok-gone.ensures) ∙ length-uids (deleted c.deref.result.now) in
    let fewer = length-filter-le is_deleted c.deref.result.now in
    let same = ap length c.deref.ensures.value in
    let few = c.self.invariant.0.few in
    omega (arith, c.len.ensures, count, fewer, same, few)

pub invariant_of-self-2 : goal.invariant_of-self-2
invariant_of-self-2 c =
    let old = c.deref_mut.ensures.len in
    let same = ap length c.deref_mut.ensures.value in
    let few = c.self.invariant.1 in
    let left = c.deref-3.ensures.value ∙ c.drop_deleted.ensures in
    let weighed = c.weight_of-self-inside.ensures.weight ∙ ap weight_of_all left in
    let light = rw left at c.weight_of-self-inside.ensures.bound in (
      rw c.drop_deleted.ensures (IsMailbox-expunge c.self.inside.highest c.self.inside.weight c.self.inside.messages.items c.self.invariant.0 c.weight_of-self-inside.result weighed light),
      short-take _ _ _ (omega (arith, old, same, few)),
    )

pub returns-clause-mailbox : goal.returns-clause-mailbox
returns-clause-mailbox c =
    let count : c.self.inside.lists.len ≡ length c.touch_for_all.new.lists = sym (c.touch_for_all.auto.lists ∙ c.deref_mut.ensures.len) in
    rw (← c.self.view_is, whole c.self.inside.lists.len c.touch_for_all.new.lists (drop (length c.touch_for_all.new.lists) c.self.inside.lists.items) count, c.drop_deleted.ensures, c.in_ok-touch_for_all.ensures.ok, c.deref_mut.ensures.value, c.deref-2.ensures.value, c.in_ok-gone.ensures, c.deref.ensures.value) refl

pub returns-clause-count : goal.returns-clause-count
returns-clause-count c = rw (← c.self.view_is, c.len.ensures, ← c.deref-2.ensures.len, c.deref-2.ensures.value, c.in_ok-gone.ensures, c.deref.ensures.value) (length-uids (deleted c.self.inside.messages.items))
