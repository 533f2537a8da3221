use Rattle.pc_account_history.specs.declared.entry.Entry.TheVariants.{Forget}
use Rattle.pc_fields.specs.Format.{ends}
use Rattle.pc_fields.proofs.Formats.{nothing_more, after_field, no_field, after_part, no_part}
use Rattle.pc_account_spelling.proofs.spelling.entry_reading.read_forget.Goals as goal

pub returns-in_err-count : goal.returns-in_err-count
returns-in_err-count c = after_field c.in_ok-client.ensures (after_field c.in_ok-mailbox.ensures (no_field c.in_err-count.ensures c.from_residual-in_err-count.ensures))

pub returns-in_err-uids : goal.returns-in_err-uids
returns-in_err-uids c = after_field c.in_ok-client.ensures (after_field c.in_ok-mailbox.ensures (after_field c.in_ok-count.ensures (no_part (λ uids. ends (Forget c.in_ok-client.client c.in_ok-mailbox.mailbox uids)) c.in_err-uids.ensures c.from_residual-in_err-uids.ensures)))

pub returns : goal.returns
returns c = after_field c.in_ok-client.ensures (after_field c.in_ok-mailbox.ensures (after_field c.in_ok-count.ensures (after_part (λ uids. ends (Forget c.in_ok-client.client c.in_ok-mailbox.mailbox uids)) c.in_ok-uids.ensures nothing_more)))
