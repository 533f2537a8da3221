use Rattle.std.proofs.Common.{◌∙◌, length}
use Rattle.pc_account_history.specs.Record.{MailboxRecord}
use Rattle.pc_account.proofs.TableSums.{sum-whole}
use Rattle.pc_account.proofs.limits.sum_of_counts.Goals as goal

pub returns : goal.returns
returns c = sum-whole (λ (box : MailboxRecord). length box.messages) c.loop-mailbox.sum c.loop-mailbox.mailbox-iterator c.into_iter-mailbox-iterator.result c.table.result.now.entries c.args.holdings.now.held.live
    c.loop-mailbox.invariant.whole c.in-None.ensures.steps.0 (c.into_iter-mailbox-iterator.ensures.into_iter_gives ∙ c.values-mailbox-items.ensures.rest) (c.table.ensures ∙ c.live.ensures)
