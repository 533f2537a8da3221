use Rattle.pc_account_holdings.proofs.Sums.{counted-put}
use Rattle.pc_account_holdings.proofs.mailboxes.Mailboxes.put.Goals as goal

pub invariant_of-self-2 : goal.invariant_of-self-2
invariant_of-self-2 c = counted-put c.self.inside.counts.weight c.self.inside.counts.changes c.replace.new.self.weight c.replace.new.self.changes c.args.name
    c.self.inside.table.entries c.put.new.table.entries c.args.mailbox c.args.mailbox
    c.none.result.weight c.none.result.changes c.of-count.result.weight c.of-count.result.changes
    c.none.ensures.weight c.none.ensures.changes c.of-count.ensures.weight c.of-count.ensures.changes
    c.in_ok-put.ensures.ok c.replace.ensures.weight c.replace.ensures.changes c.self.invariant
