use Rattle.std.proofs.Common.{◌-◌, ◌++◌, ◌≤◌, []}
use Rattle.std.specs.Map.{keys_of}
use Rattle.pc_fields.proofs.Follows.{Follows}
use Rattle.pc_office_spelling.specs.RecordFormat.{items_from, board_format}
use Rattle.pc_office_holdings.specs.Held.{weight_on_all}
use Rattle.pc_office_records.proofs.loading.tables.read_each_board.Given as goal

abbrev pub invariant-loop-taken : goal.invariant-loop-taken
invariant-loop-taken l = record {
  follows : Follows (items_from (board_format (keys_of l.users ++ keys_of l.addresses.entries)) l.count []) (items_from (board_format (keys_of l.users ++ keys_of l.addresses.entries)) (l.count - l._taken) l.boards) l.fn.cursor l.cursor;
  light : weight_on_all l.boards ≤ 67108864;
}
