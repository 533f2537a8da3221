use Rattle.std.proofs.Common.{List, ℕ, Ok, sym, subst, ◌∙◌}
use Rattle.pc_fields.specs.Fields.{u16_kind, within, FieldReads}
use Rattle.pc_fields.proofs.TestedFields.{field_fails}
use Rattle.pc_office_records.specs.ReadKept.{is_many}
use Rattle.pc_office_records.proofs.loading.kept.read_many.Goals as goal

pub returns-then-not-is_many : goal.returns-then-not-is_many
returns-then-not-is_many c =
    let range = within 1 65535 in
    field_fails u16_kind range (is_many c.args.rows.now c.args.number c.args.accepted c.args.left) c.args.cursor.now c.u16.new.self c.in_ok-many.many
    (subst (λ (from : List ℕ). FieldReads u16_kind range from c.u16.new.self (Ok c.in_ok-many.many)) c.ahead-ahead.ensures c.in_ok-many.ensures)
    (sym c.is_many.ensures ∙ c.if-not-is_many.true)
