use Rattle.std.proofs.Common.{◌≡◌, ◌+◌, ◌≤◌, ◌*◌, length}
use Rattle.pc_account_history.specs.Record.{MailboxRecord}
use Rattle.pc_tables.specs.Table.{total}
use Rattle.pc_account.proofs.limits.sum_of_counts.Given as goal

-- what is summed and what is still to come
abbrev pub invariant-loop-mailbox : goal.invariant-loop-mailbox
invariant-loop-mailbox l = record {
  whole : l.sum + total (λ (box : MailboxRecord). length box.messages) l.mailbox-iterator ≡ total (λ (box : MailboxRecord). length box.messages) l.initial.mailbox-iterator;
  bound : l.sum + 4096 * length l.mailbox-iterator ≤ 4096 * length l.initial.mailbox-iterator;
}
