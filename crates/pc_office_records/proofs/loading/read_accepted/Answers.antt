use Rattle.std.proofs.Common.{sym, map, ◌∙◌}
use Rattle.pc_fields.specs.Fields.{u64_kind, within}
use Rattle.pc_fields.proofs.TestedFields.{field_fails}
use Rattle.pc_office_holdings.specs.Held.{noted_of}
use Rattle.pc_office_records.specs.Loading.{is_accepted}
use Rattle.pc_office_records.proofs.ReadTables.{field_ahead}
use Rattle.pc_office_records.proofs.ReadRecord.{accepted-fails}
use Rattle.pc_office_records.proofs.loading.read_accepted.Goals as goal

pub returns-then-not-are_noted_upto-clause-read : goal.returns-then-not-are_noted_upto-clause-read
returns-then-not-are_noted_upto-clause-read c =
    let range = within 0 9223372036854775807 in
    let accepted = c.in_ok-accepted.accepted in
    field_fails u64_kind range (is_accepted (map noted_of c.args.users.now)) c.args.cursor.now c.u64.new.self accepted
    (field_ahead u64_kind range c.ahead-ahead.result c.args.cursor.now c.u64.new.self accepted c.ahead-ahead.ensures c.in_ok-accepted.ensures)
    (accepted-fails (map noted_of c.args.users.now) accepted (sym c.are_noted_upto.ensures ∙ c.if-not-are_noted_upto.true))
