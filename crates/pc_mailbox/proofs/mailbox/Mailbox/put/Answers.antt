use Rattle.std.proofs.Common.{refl, suc, ap, arith, length, add-one}
use Rattle.pc_account_history.specs.declared.kept.Kept.{Kept}
use Rattle.pc_mailbox.proofs.Holds.{IsMailbox-add, short-take}
use Rattle.pc_mailbox.proofs.mailbox.Mailbox.put.Goals as goal

pub overflow_add-self : goal.overflow_add-self
overflow_add-self c = let light = c.self.invariant.0.light in let few = c.self.invariant.0.few in let small = c.weight-weight.ensures.bound in omega (arith, light, few, small)

pub invariant_of-self-2 : goal.invariant_of-self-2
invariant_of-self-2 c =
    let old = c.deref_mut.ensures.len in
    let same = ap length c.deref_mut.ensures.value in
    let few = c.self.invariant.1 in
    let kept : Kept = record { uid = suc c.self.inside.highest; flags = c.args.flags; message = c.args.message } in
    let low = rw (← c.self.view_is) at c.requires.uids in
    let room = rw (← c.self.view_is) at c.requires.room in (
      rw (c.in_ok-push.ensures.items, c.reserve.ensures.items, add-one) (IsMailbox-add c.self.inside.highest c.self.inside.weight c.self.inside.messages.items kept c.self.invariant.0 low room refl c.weight-weight.result c.weight-weight.ensures.weight c.weight-weight.ensures.bound),
      short-take _ _ _ (omega (arith, old, same, few)),
    )
