use Rattle.std.proofs.Common.{◌-◌, ◌≤◌, []}
use Rattle.pc_account_spelling.specs.RecordFormat.{last_number, clients_from}
use Rattle.pc_fields.proofs.Follows.{Follows}
use Rattle.pc_account_records.proofs.loading.read_each_client.Given as goal

abbrev pub invariant-loop-taken : goal.invariant-loop-taken
invariant-loop-taken l = record {
  follows : Follows (clients_from l.count 0 []) (clients_from (l.count - l.taken) l.low l.clients.entries) l.fn.cursor l.cursor;
  born : l.low ≤ last_number;
}
