use Rattle.pc_fields.proofs.Formats.{nothing_more, after_field, after_part, no_part}
use Rattle.pc_account_records.proofs.ReadMailboxes.{behind_highest, behind_messages, behind_lists}
use Rattle.pc_account_records.proofs.loading.mailboxes.read_mailbox.Goals as goal

pub returns-in_err-messages-clause-read : goal.returns-in_err-messages-clause-read
returns-in_err-messages-clause-read c =
    after_field {format = behind_highest c.args.clients.now.entries c.args.most c.args.weight c.args.changes} c.in_ok-highest.ensures
    (no_part (behind_messages c.args.clients.now.entries c.args.changes c.in_ok-highest.highest) c.in_err-messages.ensures.read c.from_residual-in_err-messages.ensures)

pub returns-in_err-lists-clause-read : goal.returns-in_err-lists-clause-read
returns-in_err-lists-clause-read c =
    after_field {format = behind_highest c.args.clients.now.entries c.args.most c.args.weight c.args.changes} c.in_ok-highest.ensures
    (after_part (behind_messages c.args.clients.now.entries c.args.changes c.in_ok-highest.highest) c.in_ok-messages.ensures.read
    (no_part (behind_lists c.in_ok-highest.highest c.in_ok-messages.messages.items) c.in_err-lists.ensures.read c.from_residual-in_err-lists.ensures))

pub returns-clause-read : goal.returns-clause-read
returns-clause-read c =
    rw c.of.ensures
    (after_field {format = behind_highest c.args.clients.now.entries c.args.most c.args.weight c.args.changes} c.in_ok-highest.ensures
    (after_part (behind_messages c.args.clients.now.entries c.args.changes c.in_ok-highest.highest) c.in_ok-messages.ensures.read
    (after_part (behind_lists c.in_ok-highest.highest c.in_ok-messages.messages.items) c.in_ok-lists.ensures.read nothing_more)))
