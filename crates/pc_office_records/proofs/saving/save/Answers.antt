use Rattle.std.proofs.Common.{◌++◌, map, ap, ◌∙◌}
use Rattle.std.specs.List.{concat}
use Rattle.pc_fields.specs.FieldBytes.{u64_field, short_list, long_list}
use Rattle.pc_office_spelling.specs.RecordSpelling.{user_fields, address_fields, board_fields, kept_fields}
use Rattle.pc_office_holdings.specs.Held.{noted_of, record_in}
use Rattle.pc_office_records.proofs.Written.{on_ok, all-written, few-messages, few-kept, few-targets}
use Rattle.pc_office_records.proofs.saving.save.Goals as goal

pub write_boards-requires-clause-short : goal.write_boards-requires-clause-short
write_boards-requires-clause-short c = rw c.boards.ensures (few-messages (record_in c.args.holdings.now) c.requires)

pub write_kept_list-requires-clause-few : goal.write_kept_list-requires-clause-few
write_kept_list-requires-clause-few c = rw c.kept.ensures (few-kept (record_in c.args.holdings.now) c.requires)

pub write_kept_list-requires-clause-short : goal.write_kept_list-requires-clause-short
write_kept_list-requires-clause-short c = rw c.kept.ensures (few-targets (record_in c.args.holdings.now) c.requires)

pub returns : goal.returns
returns c =
    let held = c.args.holdings.now in
    on_ok c.write_kept_list.result _ _
    (λ written.
    all-written c.args.out.now (short_list user_fields (map noted_of held.users)) (short_list address_fields held.addresses) (short_list board_fields held.boards) (u64_field held.accepted) (long_list kept_fields held.kept)
    c.write_users.new.out c.write_addresses.new.out c.write_boards.new.out c.write_u64.new.out c.write_kept_list.new.out
    (c.in_ok-write_users.ensures ∙ ap (λ users. c.args.out.now ++ concat (short_list user_fields (map noted_of users))) c.users.ensures)
    (c.in_ok-write_addresses.ensures ∙ ap (λ addresses. c.write_users.new.out ++ concat (short_list address_fields addresses)) c.addresses.ensures)
    (c.in_ok-write_boards.ensures ∙ ap (λ boards. c.write_addresses.new.out ++ concat (short_list board_fields boards)) c.boards.ensures)
    (c.in_ok-write_u64.ensures ∙ ap (λ n. c.write_boards.new.out ++ u64_field n) c.accepted.ensures)
    (written ∙ ap (λ kept. c.write_u64.new.out ++ concat (long_list kept_fields kept)) c.kept.ensures))
    c.write_kept_list.ensures
