use Rattle.std.proofs.Common.{◌-◌, []}
use Rattle.std.specs.Map.{keys_of}
use Rattle.pc_fields.proofs.Follows.{Follows}
use Rattle.pc_office_spelling.specs.RecordFormat.{items_from, address_format}
use Rattle.pc_office_records.proofs.loading.tables.read_each_address.Given as goal

abbrev pub invariant-loop-taken : goal.invariant-loop-taken
invariant-loop-taken l = Follows (items_from (address_format (keys_of l.users)) l.count []) (items_from (address_format (keys_of l.users)) (l.count - l._taken) l.addresses.entries) l.fn.cursor l.cursor
