use Rattle.std.proofs.Common.{List, ℕ, Ok, sym, subst, ◌∙◌}
use Rattle.pc_fields.specs.Fields.{u64_kind, within, FieldReads}
use Rattle.pc_fields.proofs.TestedFields.{field_fails}
use Rattle.pc_office_records.specs.ReadKept.{is_next_number}
use Rattle.pc_office_records.proofs.loading.kept.read_number.Goals as goal

pub returns-then-not-is_next_number : goal.returns-then-not-is_next_number
returns-then-not-is_next_number c =
    let range = within 0 c.args.accepted in
    field_fails u64_kind range (is_next_number c.args.last c.args.rows.now c.args.accepted c.args.left) c.args.cursor.now c.u64.new.self c.in_ok-number.number
    (subst (λ (from : List ℕ). FieldReads u64_kind range from c.u64.new.self (Ok c.in_ok-number.number)) c.ahead-ahead.ensures c.in_ok-number.ensures)
    (sym c.is_next_number.ensures ∙ c.if-not-is_next_number.true)
