use Rattle.std.proofs.Common.{Option, IfSome, subst, sym}
use Rattle.std.specs.Map.{lookup}
use Rattle.pc_tables.specs.Table.{same}
use Rattle.pc_account_history.specs.Record.{MailboxRecord}
use Rattle.pc_account_holdings.specs.Mailboxes.{Table, HasRoom}
use Rattle.pc_account_holdings.proofs.Sums.{counted-set, counted-same}
use Rattle.pc_account_holdings.proofs.mailboxes.Mailboxes.add.Goals as goal

pub invariant_of-self-in_err-put : goal.invariant_of-self-in_err-put
invariant_of-self-in_err-put c = counted-same c.self.inside.counts.weight c.self.inside.counts.changes 0 0 c.args.name.now
    c.self.inside.table.entries (c.get_mut.follows.lender c.put.new.self).entries c.in-Some.mailbox.now c.put.new.self
    c.in-Some.ensures.value (c.get_mut.follows.holds c.put.new.self).0 c.in_err-put.ensures.err c.self.invariant

pub invariant_of-self-2 : goal.invariant_of-self-2
invariant_of-self-2 c = counted-set c.self.inside.counts.weight c.self.inside.counts.changes c.replace.new.self.weight c.replace.new.self.changes c.args.name.now
    c.self.inside.table.entries (c.get_mut.follows.lender c.put.new.self).entries c.in-Some.mailbox.now c.put.new.self
    c.of-before.result.weight c.of-before.result.changes c.of.result.weight c.of.result.changes
    c.of-before.ensures.weight c.of-before.ensures.changes c.of.ensures.weight c.of.ensures.changes
    c.in-Some.ensures.value (c.get_mut.follows.holds c.put.new.self).0 c.replace.ensures.weight c.replace.ensures.changes c.self.invariant

room : (c : goal.After-put-arg-1) → HasRoom c.in-Some.mailbox.now
room c = subst (λ (found : Option MailboxRecord). IfSome found HasRoom) (sym c.in-Some.ensures.value) (subst (λ (table : Table). IfSome (lookup (same c.args.name.now) table) HasRoom) (sym c.self.view_is) c.requires)

pub put-requires-clause-uids : goal.put-requires-clause-uids
put-requires-clause-uids c = (room c).uids

pub put-requires-clause-room : goal.put-requires-clause-room
put-requires-clause-room c = (room c).messages
