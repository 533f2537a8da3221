use Rattle.std.proofs.Common.{◌++◌}
use Rattle.std.specs.List.{flat_map, concat}
use Rattle.pc_fields.specs.FieldBytes.{message_fields}
use Rattle.pc_fields.proofs.Loops.{fields_more}
use Rattle.pc_office_records.proofs.saving.write_messages.Goals as goal

pub loop-message-preserved : goal.loop-message-preserved
loop-message-preserved c =
    fields_more message_fields c.args.messages.now c.loop-message.message-index _ c.loop-message.out c.write_message.new.out (c.write_u32.new.out ++ concat (flat_map message_fields c.args.messages.now)) c.loop-message-test.true c.message-item.is c.in_ok-write_message.ensures c.loop-message.invariant
