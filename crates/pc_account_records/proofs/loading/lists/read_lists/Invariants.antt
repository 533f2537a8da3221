use Rattle.std.proofs.Common.{◌≡◌, ◌+◌, ◌≤◌, [], length}
use Rattle.pc_mailbox.specs.UpdateList.{listed_in}
use Rattle.pc_account_spelling.specs.RecordFormat.{lists_from}
use Rattle.pc_fields.proofs.Follows.{Follows}
use Rattle.pc_account_records.proofs.loading.lists.read_lists.Given as goal

abbrev pub invariant-loop-client : goal.invariant-loop-client
invariant-loop-client l = record {
  follows : Follows (lists_from l.highest l.room l.clients.entries []) (lists_from l.highest l.left l.client-iterator l.lists.items) l.fn.cursor l.cursor;
  each : length l.lists.items + length l.client-iterator ≡ length l.clients.entries;
  few : listed_in l.lists.items + l.left ≤ l.room;
}
