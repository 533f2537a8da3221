use Rattle.std.proofs.Common.{ℕ, List, Ok, Err, refl, sym, subst, ◌∙◌}
use Rattle.std.proofs.lemmas.Bool.{not-true}
use Rattle.pc_tables.specs.Table.{same}
use Rattle.pc_fields.specs.Fields.{name_kind, any, FieldReads}
use Rattle.pc_fields.proofs.TestedFields.{field_fails, no_field_there}
use Rattle.pc_fields.proofs.field_testing.read_same_name.Goals as goal

pub returns-in_err-read : goal.returns-in_err-read
returns-in_err-read c =
    no_field_there name_kind any (same c.args.name.now) c.args.cursor.now c.name.new.self c.in_err-read.field-0.0 c.from_residual.result (λ _ _. refl)
    (subst (λ (from : List ℕ). FieldReads name_kind any from c.name.new.self (Err c.in_err-read.field-0.0)) c.ahead-ahead.ensures c.in_err-read.ensures) c.from_residual.ensures

pub returns-then-ne : goal.returns-then-ne
returns-then-ne c =
    field_fails name_kind any (same c.args.name.now) c.args.cursor.now c.name.new.self c.in_ok-read.read
    (subst (λ (from : List ℕ). FieldReads name_kind any from c.name.new.self (Ok c.in_ok-read.read)) c.ahead-ahead.ensures c.in_ok-read.ensures)
    (not-true (same c.args.name.now c.in_ok-read.read) (sym c.ne.ensures ∙ c.if-ne.true))
