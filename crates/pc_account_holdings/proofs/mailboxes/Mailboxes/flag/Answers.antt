use Rattle.std.proofs.Common.{◌≡◌, ℕ, true, is_some, Option, IfSome, subst, sym}
use Rattle.std.specs.Map.{lookup}
use Rattle.pc_tables.specs.Table.{same}
use Rattle.pc_account_history.specs.Record.{MailboxRecord, kept_at}
use Rattle.pc_account_holdings.specs.Mailboxes.{Table}
use Rattle.pc_account_holdings.proofs.Sums.{counted-set, counted-same}
use Rattle.pc_account_holdings.proofs.mailboxes.Mailboxes.flag.Goals as goal

pub invariant_of-self-in_err-flag : goal.invariant_of-self-in_err-flag
invariant_of-self-in_err-flag c = counted-same c.self.inside.counts.weight c.self.inside.counts.changes 0 0 c.args.name.now
    c.self.inside.table.entries (c.get_mut.follows.lender c.flag.new.self).entries c.in-Some.mailbox.now c.flag.new.self
    c.in-Some.ensures.value (c.get_mut.follows.holds c.flag.new.self).0 c.in_err-flag.ensures.err c.self.invariant

pub invariant_of-self-2 : goal.invariant_of-self-2
invariant_of-self-2 c = counted-set c.self.inside.counts.weight c.self.inside.counts.changes c.replace.new.self.weight c.replace.new.self.changes c.args.name.now
    c.self.inside.table.entries (c.get_mut.follows.lender c.flag.new.self).entries c.in-Some.mailbox.now c.flag.new.self
    c.of-before.result.weight c.of-before.result.changes c.of.result.weight c.of.result.changes
    c.of-before.ensures.weight c.of-before.ensures.changes c.of.ensures.weight c.of.ensures.changes
    c.in-Some.ensures.value (c.get_mut.follows.holds c.flag.new.self).0 c.replace.ensures.weight c.replace.ensures.changes c.self.invariant

abbrev Lives : ℕ → MailboxRecord → Type 0
Lives uid box = is_some (kept_at uid box.messages) ≡ true

pub flag-requires-clause-lives : goal.flag-requires-clause-lives
flag-requires-clause-lives c = subst (λ (found : Option MailboxRecord). IfSome found (Lives c.args.uid)) (sym c.in-Some.ensures.value) (subst (λ (table : Table). IfSome (lookup (same c.args.name.now) table) (Lives c.args.uid)) (sym c.self.view_is) c.requires.lives)
