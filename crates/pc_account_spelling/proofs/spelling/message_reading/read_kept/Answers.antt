use Rattle.std.proofs.Common.{ℕ, Ok, Err, subst}
use Rattle.pc_fields.specs.Format.{Reads}
use Rattle.pc_fields.specs.MessageFormat.{message_within}
use Rattle.pc_fields.proofs.Formats.{nothing_more, after_field, after_part, no_part}
use Rattle.pc_account_spelling.proofs.spelling.message_reading.read_kept.Goals as goal

pub returns-in_err-message-clause-read : goal.returns-in_err-message-clause-read
returns-in_err-message-clause-read c =
    after_field c.in_ok-uid.ensures (after_field c.in_ok-flags.ensures (no_part _ {halt = c.in_err-message.field-0.0} (subst (λ (room : ℕ). Reads (message_within room) c.u16.new.self c.read_message.new.cursor (Err c.in_err-message.field-0.0)) c.min.ensures c.in_err-message.ensures.read) c.from_residual-in_err-message.ensures))

pub returns-clause-read : goal.returns-clause-read
returns-clause-read c =
    after_field c.in_ok-uid.ensures (after_field c.in_ok-flags.ensures (after_part _ (subst (λ (room : ℕ). Reads (message_within room) c.u16.new.self c.read_message.new.cursor (Ok c.in_ok-message.message)) c.min.ensures c.in_ok-message.ensures.read) nothing_more))
