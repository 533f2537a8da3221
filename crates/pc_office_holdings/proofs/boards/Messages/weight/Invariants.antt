use Rattle.std.proofs.Common.{◌≡◌, ◌%◌, take}
use Rattle.pc_tables.specs.Table.{total}
use Rattle.pc_message.specs.Message.{weight_of}
use Rattle.pc_office_holdings.proofs.boards.Messages.weight.Given as goal

abbrev pub invariant-loop-message : goal.invariant-loop-message
invariant-loop-message l = l.sum ≡ total weight_of (take l.message-index l.message-items) % 18446744073709551616
