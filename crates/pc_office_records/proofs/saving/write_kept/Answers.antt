use Rattle.std.proofs.Common.{◌++◌, ap, ◌∙◌}
use Rattle.std.specs.List.{concat}
use Rattle.pc_fields.specs.FieldBytes.{u64_field, short_list, message_fields}
use Rattle.pc_office_spelling.specs.RecordSpelling.{target_fields}
use Rattle.pc_office_records.proofs.Written.{on_ok, kept-written}
use Rattle.pc_office_records.proofs.saving.write_kept.Goals as goal

pub returns : goal.returns
returns c =
    let mail = c.args.mail.now in
    on_ok c.write_message.result _ _
    (λ written. kept-written c.args.out.now (u64_field mail.number) (short_list target_fields mail.targets) (message_fields mail.message) c.write_u64.new.out c.write_targets.new.out c.write_message.new.out
    c.in_ok-write_u64.ensures (c.in_ok-write_targets.ensures ∙ ap (λ targets. c.write_u64.new.out ++ concat (short_list target_fields targets)) c.as_slice.ensures) written)
    c.write_message.ensures
