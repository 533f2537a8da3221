use Rattle.pc_account_holdings.proofs.Sums.{counted-taken, counted-untaken}
use Rattle.pc_account_holdings.proofs.mailboxes.Mailboxes.take.Goals as goal

pub invariant_of-self-2 : goal.invariant_of-self-2
invariant_of-self-2 c = counted-taken c.self.inside.counts.weight c.self.inside.counts.changes c.replace.new.self.weight c.replace.new.self.changes c.args.name.now
    c.self.inside.table.entries c.take.new.table.entries c.in_ok-mailbox.mailbox c.in_ok-mailbox.mailbox
    c.of.result.weight c.of.result.changes c.none.result.weight c.none.result.changes
    c.of.ensures.weight c.of.ensures.changes c.none.ensures.weight c.none.ensures.changes
    c.in_ok-mailbox.ensures.value c.in_ok-mailbox.ensures.first c.replace.ensures.weight c.replace.ensures.changes c.self.invariant

pub invariant_of-self : goal.invariant_of-self
invariant_of-self c = counted-untaken c.self.inside.counts.weight c.self.inside.counts.changes c.args.name.now c.self.inside.table.entries c.take.new.table.entries c.in_err-mailbox.ensures.value c.in_err-mailbox.ensures.first c.self.invariant
