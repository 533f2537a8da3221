use Rattle.std.proofs.Common.{◌≡◌, ◌+◌, ◌≤◌, ◌*◌, length}
use Rattle.pc_tables.specs.Table.{total}
use Rattle.pc_mailbox.specs.Growth.{unlisted_for}
use Rattle.pc_account.proofs.limits.sum_of_unlisted.Given as goal

-- what is summed and what is still to come
abbrev pub invariant-loop-mailbox : goal.invariant-loop-mailbox
invariant-loop-mailbox l = record {
  whole : l.sum + total (unlisted_for l.client) l.mailbox-iterator ≡ total (unlisted_for l.client) l.initial.mailbox-iterator;
  bound : l.sum + 4096 * length l.mailbox-iterator ≤ 4096 * length l.initial.mailbox-iterator;
}
