use Rattle.std.proofs.Common.{List, ℕ, Ok, Bool, true, false, not, ◌≡◌, ◌&&◌, refl, sym, ap, subst, ◌∙◌}
use Rattle.pc_tables.specs.Table.{is_among}
use Rattle.pc_fields.specs.Fields.{name_kind, any, FieldReads, is_new}
use Rattle.pc_fields.proofs.TestedFields.{field_fails}
use Rattle.pc_office_spelling.specs.Spaces.{users_of}
use Rattle.pc_office_records.specs.ReadKept.{open_in}
use Rattle.pc_office_records.proofs.loading.kept.read_open_user.Goals as goal

and-second : (a b : Bool) → b ≡ true → (a && not b) ≡ false
and-second true b h = ap not h
and-second false b h = refl

pub returns-then-not-is_open-clause-read : goal.returns-then-not-is_open-clause-read
returns-then-not-is_open-clause-read c =
    let opens = open_in c.args.users.now c.args.number in
    let users = users_of c.args.targets.now in
    field_fails name_kind any (λ user. is_among user opens && is_new users user) c.args.cursor.now c.name.new.self c.in_ok-user.user
    (subst (λ (from : List ℕ). FieldReads name_kind any from c.name.new.self (Ok c.in_ok-user.user)) c.ahead-ahead.ensures c.in_ok-user.ensures)
    (ap (λ (b : Bool). b && is_new users c.in_ok-user.user) (sym c.is_open.ensures ∙ c.if-not-is_open.true))

pub returns-then-is_taken-clause-read : goal.returns-then-is_taken-clause-read
returns-then-is_taken-clause-read c =
    let opens = open_in c.args.users.now c.args.number in
    let users = users_of c.args.targets.now in
    field_fails name_kind any (λ user. is_among user opens && is_new users user) c.args.cursor.now c.name.new.self c.in_ok-user.user
    (subst (λ (from : List ℕ). FieldReads name_kind any from c.name.new.self (Ok c.in_ok-user.user)) c.ahead-ahead.ensures c.in_ok-user.ensures)
    (and-second (is_among c.in_ok-user.user opens) (is_among c.in_ok-user.user users) (sym c.is_taken.ensures ∙ c.if-is_taken.true))
