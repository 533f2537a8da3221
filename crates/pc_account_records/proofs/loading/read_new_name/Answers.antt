use Rattle.std.proofs.Common.{ℕ, List, Ok, sym, subst, ◌∙◌}
use Rattle.std.specs.Map.{keys_of}
use Rattle.pc_fields.specs.Fields.{name_kind, any, FieldReads, is_new}
use Rattle.pc_fields.proofs.TestedFields.{field_passes, field_fails}
use Rattle.pc_account_records.proofs.ReadTables.{name_known, name_new}
use Rattle.pc_account_records.proofs.loading.read_new_name.Goals as goal

pub returns-then-contains_key-clause-read : goal.returns-then-contains_key-clause-read
returns-then-contains_key-clause-read g c =
    field_fails name_kind any (is_new (keys_of c.args.table.now.entries)) c.args.cursor.now c.name.new.self c.in_ok-name.name
    (subst (λ (from : List ℕ). FieldReads name_kind any from c.name.new.self (Ok c.in_ok-name.name)) c.ahead-ahead.ensures c.in_ok-name.ensures)
    (name_known c.in_ok-name.name c.args.table.now.entries (sym c.contains_key.ensures ∙ c.if-contains_key.true))

pub returns-clause-read : goal.returns-clause-read
returns-clause-read g c =
    field_passes name_kind any (is_new (keys_of c.args.table.now.entries)) c.args.cursor.now c.name.new.self c.in_ok-name.name
    (subst (λ (from : List ℕ). FieldReads name_kind any from c.name.new.self (Ok c.in_ok-name.name)) c.ahead-ahead.ensures c.in_ok-name.ensures)
    (name_new c.in_ok-name.name c.args.table.now.entries (sym c.contains_key.ensures ∙ c.if-contains_key.false))
