use Rattle.pc_account_holdings.proofs.Sums.{counted-set, counted-same}
use Rattle.pc_account_holdings.proofs.mailboxes.Mailboxes.expunge.Goals as goal

pub invariant_of-self-in_err-expunge : goal.invariant_of-self-in_err-expunge
invariant_of-self-in_err-expunge c = counted-same c.self.inside.counts.weight c.self.inside.counts.changes 0 0 c.args.name.now
    c.self.inside.table.entries (c.get_mut.follows.lender c.expunge.new.self).entries c.in-Some.mailbox.now c.expunge.new.self
    c.in-Some.ensures.value (c.get_mut.follows.holds c.expunge.new.self).0 c.in_err-expunge.ensures.err c.self.invariant

pub invariant_of-self-2 : goal.invariant_of-self-2
invariant_of-self-2 c = counted-set c.self.inside.counts.weight c.self.inside.counts.changes c.replace.new.self.weight c.replace.new.self.changes c.args.name.now
    c.self.inside.table.entries (c.get_mut.follows.lender c.expunge.new.self).entries c.in-Some.mailbox.now c.expunge.new.self
    c.of-before.result.weight c.of-before.result.changes c.of.result.weight c.of.result.changes
    c.of-before.ensures.weight c.of-before.ensures.changes c.of.ensures.weight c.of.ensures.changes
    c.in-Some.ensures.value (c.get_mut.follows.holds c.expunge.new.self).0 c.replace.ensures.weight c.replace.ensures.changes c.self.invariant
