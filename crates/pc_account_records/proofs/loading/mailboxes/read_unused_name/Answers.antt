use Rattle.std.proofs.Common.{◌++◌, List, ℕ, Ok, sym, subst, ◌∙◌}
use Rattle.std.specs.Map.{keys_of}
use Rattle.pc_fields.specs.Fields.{name_kind, any, FieldReads, is_new}
use Rattle.pc_fields.proofs.TestedFields.{field_passes, field_fails}
use Rattle.pc_account_records.proofs.ReadMailboxes.{name_known_live, name_known_dropped, name_unknown}
use Rattle.pc_account_records.proofs.loading.mailboxes.read_unused_name.Goals as goal

pub returns-then-is_some-clause-read : goal.returns-then-is_some-clause-read
returns-then-is_some-clause-read c =
    field_fails name_kind any (is_new (keys_of c.args.live.now ++ keys_of c.args.dropped.now)) c.args.cursor.now c.name.new.self c.in_ok-name.name
    (subst (λ (from : List ℕ). FieldReads name_kind any from c.name.new.self (Ok c.in_ok-name.name)) c.ahead-ahead.ensures c.in_ok-name.ensures)
    (name_known_live c.in_ok-name.name c.args.live.now c.args.dropped.now c.get.result c.get.ensures (sym c.is_some.ensures ∙ c.if-is_some.true))

pub returns-then-is_some-2-clause-read : goal.returns-then-is_some-2-clause-read
returns-then-is_some-2-clause-read c =
    field_fails name_kind any (is_new (keys_of c.args.live.now ++ keys_of c.args.dropped.now)) c.args.cursor.now c.name.new.self c.in_ok-name.name
    (subst (λ (from : List ℕ). FieldReads name_kind any from c.name.new.self (Ok c.in_ok-name.name)) c.ahead-ahead.ensures c.in_ok-name.ensures)
    (name_known_dropped c.in_ok-name.name c.args.live.now c.args.dropped.now c.get-2.result c.get-2.ensures (sym c.is_some-2.ensures ∙ c.if-is_some-2.true))

pub returns-clause-read : goal.returns-clause-read
returns-clause-read c =
    field_passes name_kind any (is_new (keys_of c.args.live.now ++ keys_of c.args.dropped.now)) c.args.cursor.now c.name.new.self c.in_ok-name.name
    (subst (λ (from : List ℕ). FieldReads name_kind any from c.name.new.self (Ok c.in_ok-name.name)) c.ahead-ahead.ensures c.in_ok-name.ensures)
    (name_unknown c.in_ok-name.name c.args.live.now c.args.dropped.now c.get.result c.get-2.result c.get.ensures (sym c.is_some.ensures ∙ c.if-is_some.false) c.get-2.ensures (sym c.is_some-2.ensures ∙ c.if-is_some-2.false))
