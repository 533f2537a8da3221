use Rattle.std.proofs.Common.{◌≡◌, ap, sym, ◌∙◌, arith, length, drop}
use Rattle.pc_mailbox.proofs.Holds.{IsMailbox-flag, short-take, whole}
use Rattle.pc_mailbox.proofs.mailbox.Mailbox.flag.Goals as goal

pub set_flag-requires-clause-rise : goal.set_flag-requires-clause-rise
set_flag-requires-clause-rise c = rw c.deref_mut-2.ensures.value c.self.invariant.0.rising.rising

pub invariant_of-self-2 : goal.invariant_of-self-2
invariant_of-self-2 c =
    let count : c.self.inside.messages.len ≡ length c.set_flag.new.messages = sym (c.set_flag.auto.messages ∙ c.deref_mut-2.ensures.len) in
    let old = c.deref_mut.ensures.len in
    let same = ap length c.deref_mut.ensures.value in
    let few = c.self.invariant.1 in (
      rw (whole c.self.inside.messages.len c.set_flag.new.messages (drop (length c.set_flag.new.messages) c.self.inside.messages.items) count, c.set_flag.ensures, c.deref_mut-2.ensures.value) (IsMailbox-flag c.self.inside.highest c.self.inside.weight c.args.uid c.args.flag c.args.on c.self.inside.messages.items c.self.invariant.0),
      short-take _ _ _ (omega (arith, old, same, few)),
    )
