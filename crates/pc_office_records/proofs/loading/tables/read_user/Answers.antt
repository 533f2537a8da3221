use Rattle.std.proofs.Common.{refl}
use Rattle.pc_fields.proofs.Formats.{nothing_more, after_field, no_field}
use Rattle.pc_fields.proofs.Follows.{match_err}
use Rattle.pc_office_records.proofs.ReadTables.{user-name}
use Rattle.pc_office_records.proofs.loading.tables.read_user.Goals as goal

pub returns-in_err-name-clause-read : goal.returns-in_err-name-clause-read
returns-in_err-name-clause-read c =
    match_err c.from_residual.result c.in_err-name.field-0.0 _ _ c.from_residual.ensures
    (no_field (user-name c.table.result.now.entries c.args.users.now c.args.cursor.now c.read_new_name.new.cursor _ c.table.ensures c.in_err-name.ensures.read) (refl, refl))

pub returns-in_err-noted-clause-read : goal.returns-in_err-noted-clause-read
returns-in_err-noted-clause-read c =
    match_err c.from_residual-in_err-noted.result c.in_err-noted.field-0.0 _ _ c.from_residual-in_err-noted.ensures
    (after_field (user-name c.table.result.now.entries c.args.users.now c.args.cursor.now c.read_new_name.new.cursor _ c.table.ensures c.in_ok-name.ensures.read) (no_field c.in_err-noted.ensures (refl, refl)))

pub returns-clause-read : goal.returns-clause-read
returns-clause-read c =
    after_field (user-name c.table.result.now.entries c.args.users.now c.args.cursor.now c.read_new_name.new.cursor _ c.table.ensures c.in_ok-name.ensures.read) (after_field c.in_ok-noted.ensures nothing_more)
