use Rattle.std.proofs.Common.{ℕ, List, Ok, refl, sym, subst, map}
use Rattle.pc_fields.specs.Format.{Reads}
use Rattle.pc_fields.proofs.Formats.{nothing_more, after_field, no_field, after_part, no_part}
use Rattle.pc_fields.proofs.Follows.{match_err}
use Rattle.pc_office_spelling.specs.RecordFormat.{record_format}
use Rattle.pc_office_spelling.proofs.GoodRecord.{with_users, with_addresses, with_boards}
use Rattle.pc_office_holdings.specs.Held.{noted_of}
use Rattle.pc_office_records.proofs.ReadRecord.{users-are, addresses-read, boards-read, with_kept}
use Rattle.pc_office_records.proofs.loading.read_record.Goals as goal

pub returns-in_err-users-clause-read : goal.returns-in_err-users-clause-read
returns-in_err-users-clause-read c =
    match_err c.from_residual.result c.in_err-users.field-0.0 _ _ c.from_residual.ensures
    (no_part with_users c.in_err-users.ensures.read (refl, refl))

pub returns-in_err-addresses-clause-read : goal.returns-in_err-addresses-clause-read
returns-in_err-addresses-clause-read c =
    let users = c.in_ok-users.users in
    match_err c.from_residual-in_err-addresses.result c.in_err-addresses.field-0.0 _ _ c.from_residual-in_err-addresses.ensures
    (after_part with_users c.in_ok-users.ensures.read
    (no_part (with_addresses (map noted_of users)) (addresses-read users c.read_users.new.cursor c.read_addresses.new.cursor _ c.in_err-addresses.ensures) (refl, refl)))

pub returns-in_err-boards-clause-read : goal.returns-in_err-boards-clause-read
returns-in_err-boards-clause-read c =
    let users = c.in_ok-users.users in
    let addresses = c.in_ok-addresses.addresses.entries in
    match_err c.from_residual-in_err-boards.result c.in_err-boards.field-0.0 _ _ c.from_residual-in_err-boards.ensures
    (after_part with_users c.in_ok-users.ensures.read
    (after_part (with_addresses (map noted_of users)) (addresses-read users c.read_users.new.cursor c.read_addresses.new.cursor _ c.in_ok-addresses.ensures)
    (no_part (with_boards (map noted_of users) addresses) (boards-read users addresses c.read_addresses.new.cursor c.read_boards.new.cursor _ c.in_err-boards.ensures) (refl, refl))))

pub returns-in_err-accepted-clause-read : goal.returns-in_err-accepted-clause-read
returns-in_err-accepted-clause-read c =
    let users = c.in_ok-users.users in
    let addresses = c.in_ok-addresses.addresses.entries in
    match_err c.from_residual-in_err-accepted.result c.in_err-accepted.field-0.0 _ _ c.from_residual-in_err-accepted.ensures
    (after_part with_users c.in_ok-users.ensures.read
    (after_part (with_addresses (map noted_of users)) (addresses-read users c.read_users.new.cursor c.read_addresses.new.cursor _ c.in_ok-addresses.ensures)
    (after_part (with_boards (map noted_of users) addresses) (boards-read users addresses c.read_addresses.new.cursor c.read_boards.new.cursor _ c.in_ok-boards.ensures)
    (no_field c.in_err-accepted.ensures.read (refl, refl)))))

pub read_kept-requires-clause-distinct : goal.read_kept-requires-clause-distinct
read_kept-requires-clause-distinct c = (users-are c.args.cursor.now c.read_users.new.cursor c.in_ok-users.users c.in_ok-users.ensures.read).0

pub read_kept-requires-clause-few : goal.read_kept-requires-clause-few
read_kept-requires-clause-few c = (users-are c.args.cursor.now c.read_users.new.cursor c.in_ok-users.users c.in_ok-users.ensures.read).1

pub returns-in_err-kept-clause-read : goal.returns-in_err-kept-clause-read
returns-in_err-kept-clause-read c =
    let users = c.in_ok-users.users in
    let addresses = c.in_ok-addresses.addresses.entries in
    match_err c.from_residual-in_err-kept.result c.in_err-kept.field-0.0 _ _ c.from_residual-in_err-kept.ensures
    (after_part with_users c.in_ok-users.ensures.read
    (after_part (with_addresses (map noted_of users)) (addresses-read users c.read_users.new.cursor c.read_addresses.new.cursor _ c.in_ok-addresses.ensures)
    (after_part (with_boards (map noted_of users) addresses) (boards-read users addresses c.read_addresses.new.cursor c.read_boards.new.cursor _ c.in_ok-boards.ensures)
    (after_field c.in_ok-accepted.ensures.read
    (no_part (with_kept (map noted_of users) addresses c.in_ok-boards.boards c.in_ok-accepted.accepted) c.in_err-kept.ensures.read (refl, refl))))))

pub returns-clause-read : goal.returns-clause-read
returns-clause-read c =
    let users = c.in_ok-users.users in
    let addresses = c.in_ok-addresses.addresses.entries in
    let boards = c.in_ok-boards.boards in
    let accepted = c.in_ok-accepted.accepted in
    rw c.of.ensures (subst (λ (noted : List (List ℕ × ℕ)). Reads record_format c.args.cursor.now c.read_kept.new.cursor (Ok (record { users = noted; addresses = addresses; boards = boards; accepted = accepted; kept = c.in_ok-kept.kept.items }))) (sym c.in_ok-kept.ensures.same)
    (after_part with_users c.in_ok-users.ensures.read
    (after_part (with_addresses (map noted_of users)) (addresses-read users c.read_users.new.cursor c.read_addresses.new.cursor _ c.in_ok-addresses.ensures)
    (after_part (with_boards (map noted_of users) addresses) (boards-read users addresses c.read_addresses.new.cursor c.read_boards.new.cursor _ c.in_ok-boards.ensures)
    (after_field c.in_ok-accepted.ensures.read
    (after_part (with_kept (map noted_of users) addresses boards accepted) c.in_ok-kept.ensures.read nothing_more))))))
