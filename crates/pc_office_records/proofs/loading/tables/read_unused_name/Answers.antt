use Rattle.std.proofs.Common.{◌++◌, sym, ap, not, ◌∙◌}
use Rattle.std.specs.Map.{keys_of}
use Rattle.pc_fields.specs.Fields.{name_kind, any, is_new}
use Rattle.pc_fields.proofs.TestedFields.{field_passes, field_fails}
use Rattle.pc_office_records.proofs.ReadTables.{field_ahead, none-taken}
use Rattle.pc_office_records.proofs.loading.tables.read_unused_name.Goals as goal

pub returns-then-is_taken-clause-read : goal.returns-then-is_taken-clause-read
returns-then-is_taken-clause-read c =
    let names = (keys_of c.args.users.now ++ keys_of c.args.addresses.now.entries) ++ keys_of c.args.boards.now in
    field_fails name_kind any (is_new names) c.args.cursor.now c.name.new.self c.in_ok-name.name
    (field_ahead name_kind any c.ahead-ahead.result c.args.cursor.now c.name.new.self c.in_ok-name.name c.ahead-ahead.ensures c.in_ok-name.ensures)
    (ap not (sym c.is_taken.ensures ∙ c.if-is_taken.true))

pub returns-clause-read : goal.returns-clause-read
returns-clause-read c =
    let names = (keys_of c.args.users.now ++ keys_of c.args.addresses.now.entries) ++ keys_of c.args.boards.now in
    field_passes name_kind any (is_new names) c.args.cursor.now c.name.new.self c.in_ok-name.name
    (field_ahead name_kind any c.ahead-ahead.result c.args.cursor.now c.name.new.self c.in_ok-name.name c.ahead-ahead.ensures c.in_ok-name.ensures)
    (ap not (sym c.is_taken.ensures ∙ c.if-is_taken.false))

pub returns-clause-new : goal.returns-clause-new
returns-clause-new c = none-taken c.in_ok-name.name c.args.users.now c.args.addresses.now.entries c.args.boards.now (sym c.is_taken.ensures ∙ c.if-is_taken.false)
