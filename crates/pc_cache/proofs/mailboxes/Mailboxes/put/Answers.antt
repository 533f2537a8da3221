use Rattle.std.proofs.Common.{List, ap, length}
use Rattle.pc_message.specs.declared.descriptor.Descriptor.{Descriptor}
use Rattle.pc_cache.proofs.Counted.{kept-put}
use Rattle.pc_cache.proofs.mailboxes.Mailboxes.put.Goals as goal

pub invariant_of-self-2 : goal.invariant_of-self-2
invariant_of-self-2 c = kept-put c.self.inside.names c.push.new.self c.self.inside.count _ c.self.inside.table.entries c.put.new.table.entries c.args.mailbox c.args.descriptors c.in-Ok-push.ensures.ok (ap (λ (l : List Descriptor). length l) c.as_slice.ensures.value) c.in-Ok.ensures.ok c.self.invariant
