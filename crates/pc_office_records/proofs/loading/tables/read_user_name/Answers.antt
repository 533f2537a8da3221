use Rattle.std.proofs.Common.{ℕ, List, sym, ap, ◌∙◌, is_some}
use Rattle.std.specs.Map.{keys_of, lookup}
use Rattle.pc_tables.specs.Table.{same, is_among}
use Rattle.pc_tables.proofs.Table.{is_among-keys}
use Rattle.pc_fields.specs.Fields.{name_kind, any}
use Rattle.pc_fields.proofs.TestedFields.{field_passes, field_fails}
use Rattle.pc_office_holdings.specs.declared.users.Standing.{Standing}
use Rattle.pc_office_records.proofs.ReadTables.{field_ahead}
use Rattle.pc_office_records.proofs.loading.tables.read_user_name.Goals as goal

pub returns-then-not-contains_key : goal.returns-then-not-contains_key
returns-then-not-contains_key c =
    let name = c.in_ok-name.name in
    field_fails name_kind any (λ user. is_among user (keys_of c.args.users.now)) c.args.cursor.now c.name.new.self name
    (field_ahead name_kind any c.ahead-ahead.result c.args.cursor.now c.name.new.self name c.ahead-ahead.ensures c.in_ok-name.ensures)
    (is_among-keys name c.args.users.now ∙ ap (λ (table : List (List ℕ × Standing)). is_some (lookup (same name) table)) (sym c.table.ensures) ∙ sym c.contains_key.ensures ∙ c.if-not-contains_key.true)

pub returns : goal.returns
returns c =
    let name = c.in_ok-name.name in
    field_passes name_kind any (λ user. is_among user (keys_of c.args.users.now)) c.args.cursor.now c.name.new.self name
    (field_ahead name_kind any c.ahead-ahead.result c.args.cursor.now c.name.new.self name c.ahead-ahead.ensures c.in_ok-name.ensures)
    (is_among-keys name c.args.users.now ∙ ap (λ (table : List (List ℕ × Standing)). is_some (lookup (same name) table)) (sym c.table.ensures) ∙ sym c.contains_key.ensures ∙ c.if-not-contains_key.false)
