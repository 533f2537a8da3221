-- The fields of a record that can be saved are read as it.
use Rattle.std.proofs.Common.{◌≡◌, ℕ, ◌≤◌, ◌&&◌, nat_lt, nat_le, true, false, List, [], ◌∷◌, ◌++◌, length, refl, sym, subst, ◌∙◌, append_assoc, arith, le_trans}
use Rattle.std.specs.List.{list_all, list_any}
use Rattle.std.specs.Map.{keys_of}
use Rattle.std.proofs.lemmas.Bool.{ltb-false, lt-ltb, le-leb, or_parts, and_parts, and_from}
use Rattle.pc_message.specs.declared.limits.TheConstants.{LAST_MAIL}
use Rattle.pc_tables.proofs.Lists.{Every-weaker}
use Rattle.pc_tables.proofs.Table.{length-keys}
use Rattle.pc_fields.specs.FieldBytes.{u64_field, short_list, long_list}
use Rattle.pc_fields.proofs.Formats.{reads_bind, ending}
use Rattle.pc_office_history.specs.declared.limits.TheConstants.{MOST_BOARD_MESSAGES, MOST_BOARD_WEIGHT}
use Rattle.pc_office_history.specs.Record.{OfficeRecord, mails_for}
use Rattle.pc_office_history.specs.Known.{said_by}
use Rattle.pc_office_history.specs.Limits.{are_too_many, board_weight}
use Rattle.pc_office_history.proofs.Bounds.{bounded}
use Rattle.pc_office_history.proofs.Names.{read-off}
use Rattle.pc_office_spelling.specs.RecordSpelling.{user_fields, address_fields, board_fields, kept_fields, fields_of_record}
use Rattle.pc_office_spelling.specs.RecordForm.{user_fits, address_fits, board_fits, kept_fits, CanBeSaved}
use Rattle.pc_office_spelling.specs.Spaces.{space_of}
use Rattle.pc_office_spelling.specs.RecordFormat.{users_format, addresses_format, boards_format, kept_list_format, record_format}
use Rattle.pc_office_spelling.proofs.Spaces.{follow_from}
use Rattle.pc_office_spelling.proofs.Waits.{AreFew, enough-rest}
use Rattle.pc_office_spelling.proofs.Limits.{few-each, short-each, distinct-first, distinct-second, distinct-apart, apart-both, each-noted}
use Rattle.pc_office_spelling.proofs.ReadsTables.{reads_users, reads_addresses, reads_boards}
use Rattle.pc_office_spelling.proofs.ReadsKept.{reads_kept}
use Rattle.pc_office_spelling.proofs.GoodRecord.{with_users, with_addresses, with_boards}
use Rattle.pc_fields.specs.Format.{ReadsAs}

module _ (r : OfficeRecord) (saved : CanBeSaved r) where
  pub few-users : length r.users ≤ 32
  few-users = let keys = length-keys r.users in let few = ltb-false 32 (length (keys_of r.users)) saved.canonical.within.0 in omega (arith, keys, few)

  pub few-boards : length r.boards ≤ 64
  few-boards = let keys = length-keys r.boards in let few = ltb-false 64 (length (keys_of r.boards)) saved.canonical.within.1.0 in omega (arith, keys, few)

  pub few-addresses : length r.addresses ≤ 1024
  few-addresses = let keys = length-keys r.addresses in let few = ltb-false 1024 (length (keys_of r.addresses)) saved.canonical.within.1.1.0 in omega (arith, keys, few)

  few-waiting : AreFew r.users r.kept
  few-waiting = few-each r.users r.kept (or_parts (list_any (λ user. are_too_many (mails_for user r.kept)) (keys_of r.users)) (nat_lt LAST_MAIL r.accepted) saved.canonical.within.1.1.1.0).0

  pub board-parts : (list_any (λ board. nat_lt MOST_BOARD_MESSAGES (length ((said_by r).messages board))) (keys_of r.boards) ≡ false) × (nat_lt MOST_BOARD_WEIGHT (board_weight (said_by r)) ≡ false)
  board-parts = or_parts (list_any (λ board. nat_lt MOST_BOARD_MESSAGES (length ((said_by r).messages board))) (keys_of r.boards)) (nat_lt MOST_BOARD_WEIGHT (board_weight (said_by r))) saved.canonical.within.1.1.1.1.0

  pub fits-parts : (list_all user_fits r.users ≡ true) × (list_all address_fits r.addresses ≡ true) × (list_all board_fits r.boards ≡ true) × (list_all kept_fits r.kept ≡ true)
  fits-parts =
      let first = and_parts (list_all user_fits r.users && list_all address_fits r.addresses && list_all board_fits r.boards) (list_all kept_fits r.kept) saved.fits in
      let second = and_parts (list_all user_fits r.users && list_all address_fits r.addresses) (list_all board_fits r.boards) first.0 in
      let third = and_parts (list_all user_fits r.users) (list_all address_fits r.addresses) second.0 in
      (third.0, third.1, second.1, first.1)

  reads-kept-list : ReadsAs (kept_list_format r.users r.accepted) (long_list kept_fields r.kept) r.kept
  reads-kept-list =
      let formed = saved.canonical.well_formed in
      let is-bounded = bounded r saved.canonical in
      let mails = is-bounded.mails in
      let targets = is-bounded.targets in (
        length r.kept,
        _,
        lt-ltb (length r.kept) 4294967296 (omega (arith, mails, targets)),
        follow_from (space_of []) r.users r.accepted (length r.kept) 0 formed.noted (enough-rest r.users r.accepted [] r.kept few-waiting formed.rising formed.kept),
        refl,
        reads_kept r.users r.accepted formed.noted formed.accepted few-users r.kept (record { few = few-waiting; rising = formed.rising; kept = formed.kept; fit = fits-parts.3; below = tt }),
      )

  reads-boards-on : ReadsAs (with_boards r.users r.addresses r.boards) (u64_field r.accepted ∷ long_list kept_fields r.kept) r
  reads-boards-on =
      let formed = saved.canonical.well_formed in
      let last = formed.accepted in (
        r.accepted,
        _,
        lt-ltb r.accepted 18446744073709551616 (omega (arith, last)),
        and_from (list_all (λ (user : List ℕ × ℕ). nat_le user.1 r.accepted) r.users) (nat_le r.accepted LAST_MAIL) (each-noted r.accepted r.users formed.noted) (le-leb r.accepted LAST_MAIL last),
        refl,
        ending (kept_list_format r.users r.accepted) (long_list kept_fields r.kept) r.kept (λ kept. record { users = r.users; addresses = r.addresses; boards = r.boards; accepted = r.accepted; kept = kept }) reads-kept-list,
      )

  pub reads_record : ReadsAs record_format (fields_of_record r) r
  reads_record =
      let formed = saved.canonical.well_formed in
      let last = formed.accepted in
      let off = read-off r formed in
      let weight = off.weight in
      let light = ltb-false 67108864 (board_weight (said_by r)) board-parts.1 in
      let noted = Every-weaker (λ (user : List ℕ × ℕ). user.1 ≤ r.accepted) (λ (user : List ℕ × ℕ). user.1 ≤ 9223372036854775807) (λ user le. le_trans le last) r.users formed.noted in
      let us = short_list user_fields r.users in
      let these = short_list address_fields r.addresses in
      let bs = short_list board_fields r.boards in
      let tail = u64_field r.accepted ∷ long_list kept_fields r.kept in
      subst (λ (fields : List (List ℕ)). ReadsAs record_format fields r) (sym (append_assoc (us ++ these) bs tail ∙ append_assoc us these (bs ++ tail)))
      (reads_bind users_format with_users us (these ++ (bs ++ tail)) r.users r
      (reads_users r.users few-users (distinct-first (keys_of r.users) (keys_of r.boards) formed.user_names) fits-parts.0 noted)
      (reads_bind (addresses_format (keys_of r.users)) (with_addresses r.users) these (bs ++ tail) r.addresses r
      (reads_addresses (keys_of r.users) r.addresses few-addresses (distinct-first (keys_of r.addresses) (keys_of r.boards) formed.address_names) formed.owners fits-parts.1)
      (reads_bind (boards_format (keys_of r.users ++ keys_of r.addresses)) (with_boards r.users r.addresses) bs tail r.boards r
      (reads_boards (keys_of r.users ++ keys_of r.addresses) r.boards few-boards (distinct-second (keys_of r.users) (keys_of r.boards) formed.user_names)
      (apart-both (keys_of r.users) (keys_of r.addresses) r.boards (distinct-apart (keys_of r.users) r.boards formed.user_names) (distinct-apart (keys_of r.addresses) r.boards formed.address_names)) fits-parts.2
      (short-each (said_by r).messages r.boards off.messages board-parts.0) (omega (arith, weight, light))) reads-boards-on)))
