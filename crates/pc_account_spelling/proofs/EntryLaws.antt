-- The laws of the bytes of entries.
use Rattle.std.proofs.Common.{◌≡◌, ℕ, ◌+◌, ◌*◌, ◌≤◌, ◌&&◌, nat_lt, nat_le, List, [], ◌∷◌, ◌++◌, length, map, IsTrue, refl, ap, arith}
use Rattle.std.specs.List.{concat, flat_map, list_all}
use Rattle.std.proofs.lemmas.Bool.{and_parts, leb-true, eqb-true}
use Rattle.std.proofs.lemmas.List.{length-append}
use Rattle.pc_base.specs.Name.{is_name}
use Rattle.pc_base.specs.Line.{is_line}
use Rattle.pc_message.specs.Message.{size_of}
use Rattle.pc_account_history.specs.declared.entry.Entry.{Entry}
use Rattle.pc_account_history.specs.declared.entry.Entry.TheVariants.{MakeMailbox, DropMailbox, Flag, Expunge, Copy, MakeClient, DropClient, ResetClient, ResetMailbox, Forget, Pull, Password, Subscribe, Unsubscribe, Mark}
use Rattle.pc_fields.specs.FieldBytes.{u8_field, bool_field, u16_field, u32_field, u64_field, name_field, line_field, message_fields}
use Rattle.pc_account_spelling.specs.Spelling.{letter_fields, parts_of}
use Rattle.pc_fields.specs.Fitting.{is_u32, is_message}
use Rattle.pc_account_spelling.specs.EntryForm.{is_letter, entry_fits}
use Rattle.pc_account_spelling.specs.Laws.{most_bytes, forgotten, EntryLength, EntryIsShort}
use Rattle.pc_fields.proofs.Loops.{concat-append}
use Rattle.pc_fields.proofs.Spelled.{one-value, is-read, one-fault}
use Rattle.pc_fields.proofs.FieldLengths.{u16-long, u32-long, u64-long, name-short, lines-long}
use Rattle.pc_account_spelling.proofs.Spelled.{entries-spelled}
use Rattle.pc_account_spelling.specs.Spelled.{entries}
use Rattle.pc_fields.specs.Spelled.{OneValue, IsRead, OneFault}

pub one-entry : OneValue entries
one-entry = one-value entries entries-spelled

pub entry-is-read : IsRead entries
entry-is-read = is-read entries entries-spelled

pub one-entry-fault : OneFault entries
one-entry-fault = one-fault entries entries-spelled

letter-long : (letter : List ℕ × List (List ℕ)) → IsTrue (is_letter letter) → length (concat (letter_fields letter)) ≤ 65573
letter-long letter is =
    let parts = and_parts (is_name letter.0) (is_message letter.1) is in
    let size : size_of letter.1 ≤ 65536 = leb-true _ _ (and_parts (list_all is_line letter.1) (nat_le (size_of letter.1) 65536) parts.1).1 in
    omega (arith, name-short letter.0 parts.0, length-append letter.0 (concat (message_fields letter.1)), length-append (u32_field (length letter.1)) (concat (map line_field letter.1)), u32-long (length letter.1), lines-long letter.1)

letters-long : (letters : List (List ℕ × List (List ℕ))) → IsTrue (list_all is_letter letters) → length (concat (flat_map letter_fields letters)) ≤ 65573 * length letters
letters-long [] are = omega arith
letters-long (letter ∷ letters) are =
    let parts = and_parts (is_letter letter) (list_all is_letter letters) are in
    omega (arith, ap length (concat-append (letter_fields letter) (flat_map letter_fields letters)), length-append (concat (letter_fields letter)) (concat (flat_map letter_fields letters)), letter-long letter parts.0, letters-long letters parts.1)

uids-long : (uids : List ℕ) → length (concat (map u32_field uids)) ≡ 4 * length uids
uids-long [] = refl
uids-long (uid ∷ uids) = omega (arith, length-append (u32_field uid) (concat (map u32_field uids)), u32-long uid, uids-long uids)

named-long : (name : List ℕ) → IsTrue (is_name name) → length (name_field name ++ []) ≤ 33
named-long name is = omega (arith, length-append name [], name-short name is)

parts-long : (entry : Entry) → IsTrue (entry_fits entry) → length (concat (parts_of entry)) + 1 ≤ most_bytes entry
parts-long (MakeMailbox mailbox) fits = omega (arith, named-long mailbox fits)
parts-long (DropMailbox mailbox) fits = omega (arith, named-long mailbox fits)
parts-long (Flag mailbox uid flag on) fits =
    let first = and_parts (is_name mailbox && is_u32 uid) (nat_lt flag 256) fits in
    let second = and_parts (is_name mailbox) (is_u32 uid) first.0 in
    let rest = u8_field flag ++ (bool_field on ++ []) in
    omega (arith, name-short mailbox second.0, length-append mailbox (u32_field uid ++ rest), length-append (u32_field uid) rest, u32-long uid)
parts-long (Expunge mailbox) fits = omega (arith, named-long mailbox fits)
parts-long (Copy mailbox uid target) fits =
    let first = and_parts (is_name mailbox && is_u32 uid) (is_name target) fits in
    let second = and_parts (is_name mailbox) (is_u32 uid) first.0 in
    omega (arith, name-short mailbox second.0, name-short target first.1, length-append mailbox (u32_field uid ++ (name_field target ++ [])), length-append (u32_field uid) (name_field target ++ []), length-append target [], u32-long uid)
parts-long (MakeClient client) fits = omega (arith, named-long client fits)
parts-long (DropClient client) fits = omega (arith, named-long client fits)
parts-long (ResetClient client) fits = omega (arith, named-long client fits)
parts-long (ResetMailbox client mailbox) fits =
    let first = and_parts (is_name client) (is_name mailbox) fits in
    omega (arith, name-short client first.0, name-short mailbox first.1, length-append client (name_field mailbox ++ []), length-append mailbox [])
parts-long (Forget client mailbox uids) fits =
    let first = and_parts (is_name client && is_name mailbox && is_u32 (length uids)) (list_all is_u32 uids) fits in
    let second = and_parts (is_name client && is_name mailbox) (is_u32 (length uids)) first.0 in
    let third = and_parts (is_name client) (is_name mailbox) second.0 in
    let rest = concat (map u32_field uids) in
    omega (arith, name-short client third.0, name-short mailbox third.1, length-append client (name_field mailbox ++ (u32_field (length uids) ++ rest)), length-append mailbox (u32_field (length uids) ++ rest), length-append (u32_field (length uids)) rest, u32-long (length uids), uids-long uids)
parts-long (Pull upto letters) fits =
    let first = and_parts (nat_lt upto 18446744073709551616 && nat_lt 0 (length letters) && nat_le (length letters) 64) (list_all is_letter letters) fits in
    let rest = concat (flat_map letter_fields letters) in
    omega (arith, length-append (u64_field upto) (u16_field (length letters) ++ rest), length-append (u16_field (length letters)) rest, u64-long upto, u16-long (length letters), letters-long letters first.1)
parts-long (Password digest) fits = omega (arith, length-append digest [], eqb-true (length digest) 32 fits)
parts-long (Subscribe board) fits = omega (arith, named-long board fits)
parts-long (Unsubscribe board) fits = omega (arith, named-long board fits)
parts-long (Mark board uid) fits =
    let first = and_parts (is_name board) (is_u32 uid) fits in
    omega (arith, name-short board first.0, length-append board (u32_field uid ++ []), length-append (u32_field uid) [], u32-long uid)

pub entry-length : EntryLength
entry-length entry fits = (omega arith, omega (arith, parts-long entry fits))

short-enough : (entry : Entry) → IsTrue (entry_fits entry) → length (forgotten entry) ≤ 1048576 → most_bytes entry ≤ 8388608
short-enough (Forget client mailbox uids) fits few = omega arith
short-enough (Pull upto letters) fits few =
    let first = and_parts (nat_lt upto 18446744073709551616 && nat_lt 0 (length letters) && nat_le (length letters) 64) (list_all is_letter letters) fits in
    let second = and_parts (nat_lt upto 18446744073709551616 && nat_lt 0 (length letters)) (nat_le (length letters) 64) first.0 in
    omega (arith, leb-true (length letters) 64 second.1)
short-enough _ fits few = omega arith

pub entry-is-short : EntryIsShort
entry-is-short entry fits few =
    let length-is = entry-length entry fits in
    (length-is.0, omega (arith, length-is.1, short-enough entry fits few))
