use Rattle.pc_fields.specs.Format.{ends}
use Rattle.pc_fields.proofs.Formats.{nothing_more, after_part, no_part}
use Rattle.pc_account_records.proofs.ReadMailboxes.{within_more, next_reads}
use Rattle.pc_account_records.proofs.loading.mailboxes.read_next.Goals as goal

pub returns-in_err-mailbox-clause-read : goal.returns-in_err-mailbox-clause-read
returns-in_err-mailbox-clause-read c =
    next_reads c.args.clients.now.entries c.args.live.now c.args.dropped.now c.in_ok-name.name c.in_ok-lives.lives c.most_messages-most.result c.weight_left-weight.result c.changes_left-changes.result c.most_messages-most.ensures c.weight_left-weight.ensures c.changes_left-changes.ensures
    c.args.cursor.now c.read_unused_name.new.cursor c.read_lives.new.cursor c.read_mailbox.new.cursor c.in_ok-name.ensures.read c.in_ok-lives.ensures c.from_residual-in_err-mailbox.result
    (no_part (λ box. ends (c.in_ok-name.name, c.in_ok-lives.lives, box)) c.in_err-mailbox.ensures.read c.from_residual-in_err-mailbox.ensures)

pub returns-clause-read : goal.returns-clause-read
returns-clause-read c =
    next_reads c.args.clients.now.entries c.args.live.now c.args.dropped.now c.in_ok-name.name c.in_ok-lives.lives c.most_messages-most.result c.weight_left-weight.result c.changes_left-changes.result c.most_messages-most.ensures c.weight_left-weight.ensures c.changes_left-changes.ensures
    c.args.cursor.now c.read_unused_name.new.cursor c.read_lives.new.cursor c.read_mailbox.new.cursor c.in_ok-name.ensures.read c.in_ok-lives.ensures _
    (after_part (λ box. ends (c.in_ok-name.name, c.in_ok-lives.lives, box)) c.in_ok-mailbox.ensures.read nothing_more)

pub returns-clause-within : goal.returns-clause-within
returns-clause-within c =
    within_more c.in_ok-lives.lives c.in_ok-name.name c.in_ok-mailbox.mailbox c.args.live.now c.args.dropped.now c.weight_left-weight.result c.changes_left-changes.result c.requires.within c.weight_left-weight.ensures c.changes_left-changes.ensures c.in_ok-mailbox.ensures.light c.in_ok-mailbox.ensures.listed
