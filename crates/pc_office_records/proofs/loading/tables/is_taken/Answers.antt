use Rattle.std.proofs.Common.{true, false, refl, sym, ◌∙◌}
use Rattle.pc_office_records.proofs.ReadTables.{in-table, taken-first, taken-second, taken-third}
use Rattle.pc_office_records.proofs.loading.tables.is_taken.Goals as goal

pub returns-then-contains_key : goal.returns-then-contains_key
returns-then-contains_key c =
    let name = c.args.name.now in
    taken-first name c.args.users.now c.args.addresses.now.entries c.args.boards.now (in-table name c.contains_key.result true c.table.result.now.entries c.args.users.now c.table.ensures c.contains_key.ensures c.if-contains_key.true)

pub returns-then-contains_key-2 : goal.returns-then-contains_key-2
returns-then-contains_key-2 c =
    let name = c.args.name.now in
    taken-second name c.args.users.now c.args.addresses.now.entries c.args.boards.now (in-table name c.contains_key.result false c.table.result.now.entries c.args.users.now c.table.ensures c.contains_key.ensures c.if-contains_key.false)
    (sym c.contains_key-2.ensures ∙ c.if-contains_key-2.true)

pub returns : goal.returns
returns c =
    let name = c.args.name.now in
    sym (in-table name c.contains_key-3.result c.contains_key-3.result c.table-2.result.now.entries c.args.boards.now c.table-2.ensures c.contains_key-3.ensures refl)
    ∙ taken-third name c.args.users.now c.args.addresses.now.entries c.args.boards.now (in-table name c.contains_key.result false c.table.result.now.entries c.args.users.now c.table.ensures c.contains_key.ensures c.if-contains_key.false)
    (sym c.contains_key-2.ensures ∙ c.if-contains_key-2.false)
