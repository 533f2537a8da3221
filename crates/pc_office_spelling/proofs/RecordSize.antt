-- How many bytes a record takes.
use Rattle.std.proofs.Common.{◌≡◌, ℕ, ◌+◌, ◌*◌, ◌≤◌, true, List, [], ◌∷◌, ◌++◌, length, ap, ◌∙◌, arith, length-append}
use Rattle.std.specs.List.{list_all, flat_map, concat}
use Rattle.std.proofs.lemmas.Bool.{ltb-false, and_parts}
use Rattle.pc_base.specs.Name.{is_name}
use Rattle.pc_message.specs.Message.{weight_of}
use Rattle.pc_tables.specs.Table.{total}
use Rattle.pc_fields.specs.FieldBytes.{u16_field, u32_field, u64_field, name_field, message_fields, short_list, long_list}
use Rattle.pc_fields.specs.Fitting.{is_message}
use Rattle.pc_fields.proofs.Loops.{concat-append}
use Rattle.pc_fields.proofs.FieldLengths.{name-short, u16-long, u32-long, u64-long, message-long, bytes, bytes-more, bytes-both, bytes-name}
use Rattle.pc_office_history.specs.declared.limits.TheConstants.{MOST_BOARD_WEIGHT}
use Rattle.pc_office_history.specs.declared.kept.Target.{Target}
use Rattle.pc_office_history.specs.declared.kept.KeptMail.{KeptMail}
use Rattle.pc_office_history.specs.Record.{OfficeRecord}
use Rattle.pc_office_history.specs.Known.{said_by}
use Rattle.pc_office_history.specs.Limits.{board_weight}
use Rattle.pc_office_history.proofs.Bounds.{bounded}
use Rattle.pc_office_history.proofs.Names.{read-off}
use Rattle.pc_office_spelling.specs.RecordSpelling.{user_fields, target_fields, address_fields, board_fields, kept_fields, spelled_record}
use Rattle.pc_office_spelling.specs.RecordForm.{user_fits, target_fits, address_fits, board_fits, kept_fits, CanBeSaved}
use Rattle.pc_office_spelling.specs.RecordFormat.{weight_on}
use Rattle.pc_office_spelling.proofs.Limits.{Boards}
use Rattle.pc_office_spelling.proofs.ReadsRecord.{few-users, few-boards, few-addresses, board-parts, fits-parts}

users-long : (users : List (List ℕ × ℕ)) → list_all user_fits users ≡ true → bytes (flat_map user_fields users) ≤ 41 * length users
users-long [] fit = omega arith
users-long (user ∷ users) fit =
    let parts = and_parts (is_name user.0) (list_all user_fits users) fit in
    let both = bytes-both (user_fields user) (flat_map user_fields users) in
    let name = bytes-name user.0 (u64_field user.1 ∷ []) parts.0 in
    let number = bytes-more (u64_field user.1) [] in
    let eight = u64-long user.1 in
    let rest = users-long users parts.1 in
    omega (arith, both, name, number, eight, rest)

target-long : (target : Target) → target_fits target ≡ true → bytes (target_fields target) ≤ 66
target-long target fit =
    let parts = and_parts (is_name target.user) (is_name target.mailbox) fit in
    let user = bytes-name target.user (name_field target.mailbox ∷ []) parts.0 in
    let mailbox = bytes-name target.mailbox [] parts.1 in
    omega (arith, user, mailbox)

targets-long : (targets : List Target) → list_all target_fits targets ≡ true → bytes (flat_map target_fields targets) ≤ 66 * length targets
targets-long [] fit = omega arith
targets-long (target ∷ targets) fit =
    let parts = and_parts (target_fits target) (list_all target_fits targets) fit in
    let both = bytes-both (target_fields target) (flat_map target_fields targets) in
    let one = target-long target parts.0 in
    let rest = targets-long targets parts.1 in
    omega (arith, both, one, rest)

addresses-long : (addresses : List (List ℕ × Target)) → list_all address_fits addresses ≡ true → bytes (flat_map address_fields addresses) ≤ 99 * length addresses
addresses-long [] fit = omega arith
addresses-long (address ∷ addresses) fit =
    let parts = and_parts (address_fits address) (list_all address_fits addresses) fit in
    let names = and_parts (is_name address.0) (target_fits address.1) parts.0 in
    let both = bytes-both (address_fields address) (flat_map address_fields addresses) in
    let name = bytes-name address.0 (target_fields address.1) names.0 in
    let target = target-long address.1 names.1 in
    let rest = addresses-long addresses parts.1 in
    omega (arith, both, name, target, rest)

messages-long : (messages : List (List (List ℕ))) → bytes (flat_map message_fields messages) ≤ total weight_of messages
messages-long [] = omega arith
messages-long (message ∷ messages) =
    let both = bytes-both (message_fields message) (flat_map message_fields messages) in
    let one = message-long message in
    let rest = messages-long messages in
    omega (arith, both, one, rest)

boards-long : (boards : Boards) → list_all board_fits boards ≡ true → bytes (flat_map board_fields boards) ≤ 37 * length boards + weight_on boards
boards-long [] fit = omega arith
boards-long (board ∷ boards) fit =
    let parts = and_parts (board_fits board) (list_all board_fits boards) fit in
    let names = and_parts (is_name board.0) (list_all is_message board.1) parts.0 in
    let both = bytes-both (board_fields board) (flat_map board_fields boards) in
    let name = bytes-name board.0 (long_list message_fields board.1) names.0 in
    let count = bytes-more (u32_field (length board.1)) (flat_map message_fields board.1) in
    let four = u32-long (length board.1) in
    let messages = messages-long board.1 in
    let rest = boards-long boards parts.1 in
    omega (arith, both, name, count, four, messages, rest)

kept-long : (kept : List KeptMail) → list_all kept_fits kept ≡ true → bytes (flat_map kept_fields kept) ≤ 10 * length kept + 66 * total (λ (mail : KeptMail). length mail.targets) kept + total (λ (mail : KeptMail). weight_of mail.message) kept
kept-long [] fit = omega arith
kept-long (mail ∷ kept) fit =
    let parts = and_parts (kept_fits mail) (list_all kept_fits kept) fit in
    let fits = and_parts (list_all target_fits mail.targets) (is_message mail.message) parts.0 in
    let both = bytes-both (kept_fields mail) (flat_map kept_fields kept) in
    let number = bytes-more (u64_field mail.number) (short_list target_fields mail.targets ++ message_fields mail.message) in
    let eight = u64-long mail.number in
    let inner = bytes-both (short_list target_fields mail.targets) (message_fields mail.message) in
    let count = bytes-more (u16_field (length mail.targets)) (flat_map target_fields mail.targets) in
    let two = u16-long (length mail.targets) in
    let targets = targets-long mail.targets fits.0 in
    let message = message-long mail.message in
    let rest = kept-long kept parts.1 in
    omega (arith, both, number, eight, inner, count, two, targets, message, rest)

module _ (r : OfficeRecord) (saved : CanBeSaved r) where
  users-bytes : bytes (short_list user_fields r.users) ≤ 1314
  users-bytes =
      let few = few-users r saved in
      let count = bytes-more (u16_field (length r.users)) (flat_map user_fields r.users) in
      let two = u16-long (length r.users) in
      let long = users-long r.users (fits-parts r saved).0 in
      omega (arith, few, count, two, long)

  boards-bytes : bytes (short_list board_fields r.boards) ≤ 67111234
  boards-bytes =
      let few = few-boards r saved in
      let off = read-off r saved.canonical.well_formed in
      let weight = off.weight in
      let light = ltb-false MOST_BOARD_WEIGHT (board_weight (said_by r)) (board-parts r saved).1 in
      let count = bytes-more (u16_field (length r.boards)) (flat_map board_fields r.boards) in
      let two = u16-long (length r.boards) in
      let long = boards-long r.boards (fits-parts r saved).2 in
      omega (arith, few, weight, light, count, two, long)

  addresses-bytes : bytes (short_list address_fields r.addresses) ≤ 101378
  addresses-bytes =
      let few = few-addresses r saved in
      let count = bytes-more (u16_field (length r.addresses)) (flat_map address_fields r.addresses) in
      let two = u16-long (length r.addresses) in
      let long = addresses-long r.addresses (fits-parts r saved).1 in
      omega (arith, few, count, two, long)

  kept-bytes : bytes (long_list kept_fields r.kept) ≤ 136708100
  kept-bytes =
      let is = bounded r saved.canonical in
      let mails = is.mails in
      let targets = is.targets in
      let weight = is.weight in
      let count = bytes-more (u32_field (length r.kept)) (flat_map kept_fields r.kept) in
      let four = u32-long (length r.kept) in
      let long = kept-long r.kept (fits-parts r saved).3 in
      omega (arith, mails, targets, weight, count, four, long)

  record-bytes : length (spelled_record r) ≤ 1073741824
  record-bytes =
      let us = short_list user_fields r.users in
      let these = short_list address_fields r.addresses in
      let bs = short_list board_fields r.boards in
      let tail = u64_field r.accepted ∷ long_list kept_fields r.kept in
      let first = bytes-both (us ++ these ++ bs) tail in
      let second = bytes-both (us ++ these) bs in
      let third = bytes-both us these in
      let fourth = bytes-more (u64_field r.accepted) (long_list kept_fields r.kept) in
      let eight = u64-long r.accepted in
      let a = users-bytes in
      let b = addresses-bytes in
      let c = boards-bytes in
      let d = kept-bytes in
      omega (arith, first, second, third, fourth, eight, a, b, c, d)

pub record_size : (r : OfficeRecord) → CanBeSaved r → length (spelled_record r) ≤ 1073741824
record_size = record-bytes
