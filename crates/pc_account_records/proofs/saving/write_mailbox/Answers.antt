use Rattle.std.proofs.Common.{◌++◌, ap, ◌∙◌}
use Rattle.std.specs.List.{concat}
use Rattle.pc_fields.specs.FieldBytes.{u32_field, short_list}
use Rattle.pc_account_spelling.specs.Spelling.{update_list_fields}
use Rattle.pc_account_records.proofs.Written.{on_ok, mailbox-written}
use Rattle.pc_account_records.proofs.saving.write_mailbox.Goals as goal

pub returns : goal.returns
returns c =
    on_ok c.write_lists.result _ _
    (λ written. mailbox-written c.args.out.now c.args.live c.args.name.now c.args.mailbox.now c.write_name.new.out c.write_bool.new.out c.write_u32.new.out c.write_messages.new.out c.write_lists.new.out
    c.in_ok-write_name.ensures c.in_ok-write_bool.ensures (c.in_ok-write_u32.ensures ∙ ap (λ n. c.write_bool.new.out ++ u32_field n) c.highest.ensures.highest) c.in_ok-write_messages.ensures
    (written ∙ ap (λ lists. c.write_messages.new.out ++ concat (short_list update_list_fields lists)) c.lists.ensures))
    c.write_lists.ensures
