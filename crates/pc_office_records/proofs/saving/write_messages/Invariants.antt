use Rattle.std.proofs.Common.{◌≡◌, ◌++◌, drop}
use Rattle.std.specs.List.{flat_map, concat}
use Rattle.pc_fields.specs.FieldBytes.{message_fields}
use Rattle.pc_office_records.proofs.saving.write_messages.Given as goal

-- the messages that are left make the list whole
abbrev pub invariant-loop-message : goal.invariant-loop-message
invariant-loop-message l = l.out ++ concat (flat_map message_fields (drop l.message-index l.messages)) ≡ l.initial.out ++ concat (flat_map message_fields l.messages)
