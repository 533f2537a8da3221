use Rattle.std.proofs.Common.{[], ◌≡◌, refl, sym, ap, ◌∙◌, subst, length, slice_get}
use Rattle.std.specs.Map.{values_of}
use Rattle.indexmap.specs.IndexMap.{set_value_at}
use Rattle.indexmap.specs.Layout.{length-set_value_at}
use Rattle.pc_account_history.specs.Record.{MailboxRecord}
use Rattle.pc_account_holdings.specs.Mailboxes.{Table, AreCounted, front_changed, changed_for}
use Rattle.pc_account_holdings.proofs.Sums.{counted-set-at, front-step}
use Rattle.pc_tables.proofs.Fronts.{set-at-same}
use Rattle.pc_account_holdings.proofs.mailboxes.Mailboxes.change_one.Goals as goal

pub invariant_of-self-in_err-change_lists : goal.invariant_of-self-in_err-change_lists
invariant_of-self-in_err-change_lists c =
    let table = c.self.inside.table.entries in
    let same-table : set_value_at table c.args.index c.change_lists.new.mailbox ≡ table = rw c.in_err-change_lists.ensures.err (set-at-same table c.args.index c.in-Some.mailbox.now (sym c.in-Some.ensures.value)) in
    subst (λ (t : Table). AreCounted c.self.inside.counts.weight c.self.inside.counts.changes t) (sym same-table) c.self.invariant

pub invariant_of-self-2 : goal.invariant_of-self-2
invariant_of-self-2 c = counted-set-at c.self.inside.counts.weight c.self.inside.counts.changes c.replace.new.self.weight c.replace.new.self.changes []
    c.self.inside.table.entries (set_value_at c.self.inside.table.entries c.args.index c.change_lists.new.mailbox) c.in-Some.mailbox.now c.change_lists.new.mailbox
    c.args.index c.of-before.result.weight c.of-before.result.changes c.of.result.weight c.of.result.changes
    c.of-before.ensures.weight c.of-before.ensures.changes c.of.ensures.weight c.of.ensures.changes
    c.in-Some.ensures.value refl c.replace.ensures.weight c.replace.ensures.changes c.self.invariant

pub returns-clause-changed : goal.returns-clause-changed
returns-clause-changed c = λ all e.
    let change = changed_for c.args.change c.args.at c.args.client in
    let table = c.self.inside.table.entries in
    let front : table ≡ front_changed change c.args.index all = c.self.view_is ∙ e in
    ap (λ (box : MailboxRecord). set_value_at table c.args.index box) c.in_ok-change_lists.ensures.ok
    ∙ ap (λ (t : Table). set_value_at t c.args.index (change c.in-Some.mailbox.now)) front
    ∙ front-step change all c.args.index c.in-Some.mailbox.now (ap (λ (t : Table). slice_get (values_of t) c.args.index) (sym front) ∙ sym c.in-Some.ensures.value)

pub returns-clause-count : goal.returns-clause-count
returns-clause-count c = length-set_value_at c.self.inside.table.entries c.args.index c.change_lists.new.mailbox ∙ ap (λ (t : Table). length t) c.self.view_is
