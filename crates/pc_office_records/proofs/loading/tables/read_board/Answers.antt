use Rattle.pc_fields.specs.Format.{ends}
use Rattle.pc_fields.proofs.Formats.{nothing_more, after_field, after_part, no_part}
use Rattle.pc_office_records.proofs.ReadTables.{count-read, messages-read, boards-light}
use Rattle.pc_office_records.proofs.loading.tables.read_board.Goals as goal

pub returns-in_err-messages-clause-read : goal.returns-in_err-messages-clause-read
returns-in_err-messages-clause-read c =
    let boards = c.args.boards.now in
    let room = c.weight_left-room.result in
    after_field c.in_ok-name.ensures.read
    (after_field (count-read boards room c.weight_left-room.ensures c.min.result c.read_unused_name.new.cursor c.u32.new.self _ c.min.ensures c.in_ok-count.ensures)
    (no_part (λ messages. ends (c.in_ok-name.name, messages)) (messages-read boards room c.weight_left-room.ensures c.in_ok-count.count c.u32.new.self c.read_messages.new.cursor _ c.in_err-messages.ensures.read) c.from_residual-in_err-messages.ensures))

pub returns-clause-read : goal.returns-clause-read
returns-clause-read c =
    let boards = c.args.boards.now in
    let room = c.weight_left-room.result in
    after_field c.in_ok-name.ensures.read
    (after_field (count-read boards room c.weight_left-room.ensures c.min.result c.read_unused_name.new.cursor c.u32.new.self _ c.min.ensures c.in_ok-count.ensures)
    (after_part (λ messages. ends (c.in_ok-name.name, messages)) (messages-read boards room c.weight_left-room.ensures c.in_ok-count.count c.u32.new.self c.read_messages.new.cursor _ c.in_ok-messages.ensures.read) nothing_more))

pub returns-clause-light : goal.returns-clause-light
returns-clause-light c = boards-light c.args.boards.now c.weight_left-room.result c.weight_left-room.ensures c.in_ok-name.name c.in_ok-messages.messages c.requires c.in_ok-messages.ensures.light
