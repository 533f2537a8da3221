-- The laws of the bytes of entries.
use Rattle.std.proofs.Common.{◌≡◌, ℕ, ◌+◌, ◌*◌, ◌≤◌, ◌&&◌, nat_lt, nat_le, List, [], ◌∷◌, ◌++◌, length, map, IsTrue, refl, ap, arith, length-append}
use Rattle.std.specs.List.{concat, list_all}
use Rattle.std.proofs.lemmas.Bool.{and_parts, ltb-true, leb-true}
use Rattle.pc_base.specs.Name.{is_name}
use Rattle.pc_base.specs.Line.{is_line}
use Rattle.pc_message.specs.Message.{size_of}
use Rattle.pc_office_history.specs.declared.entry.OfficeEntry.{OfficeEntry}
use Rattle.pc_office_history.specs.declared.entry.OfficeEntry.TheVariants.{AddUser, AddBoard, TakeAddress, DropAddress, Accept, Pulled}
use Rattle.pc_fields.specs.FieldBytes.{u16_field, u32_field, u64_field, name_field, line_field, message_fields}
use Rattle.pc_fields.specs.Fitting.{is_message}
use Rattle.pc_fields.proofs.Loops.{concat-append}
use Rattle.pc_fields.proofs.FieldLengths.{name-short, u16-long, u64-long, message-long}
use Rattle.pc_office_spelling.specs.Spelling.{names_fields, parts_of, fields_of, spelled_entry}
use Rattle.pc_office_spelling.specs.EntryForm.{are_names, entry_fits, IsEntry}
use Rattle.pc_office_spelling.specs.EntryFormat.{entry_format}
use Rattle.pc_office_spelling.specs.Laws.{most_bytes, EntryLength, EntryIsShort}
use Rattle.pc_fields.proofs.Spelled.{one-value, is-read, one-fault}
use Rattle.pc_office_spelling.proofs.Spelled.{entries-spelled}
use Rattle.pc_office_spelling.specs.Spelled.{entries}
use Rattle.pc_fields.specs.Spelled.{OneValue, IsRead, OneFault}

pub one-entry : OneValue entries
one-entry = one-value entries entries-spelled

pub entry-is-read : IsRead entries
entry-is-read = is-read entries entries-spelled

pub one-entry-fault : OneFault entries
one-entry-fault = one-fault entries entries-spelled

-- ---- how many bytes entries take

each-long : (names : List (List ℕ)) → IsTrue (list_all is_name names) → length (concat (map name_field names)) ≤ 33 * length names
each-long [] are = omega arith
each-long (name ∷ names) are =
    let parts = and_parts (is_name name) (list_all is_name names) are in
    omega (arith, length-append name (concat (map name_field names)), name-short name parts.0, each-long names parts.1)

names-long : (names : List (List ℕ)) → IsTrue (are_names names) → length (concat (names_fields names)) ≤ 2 + 33 * length names
names-long names are =
    let parts = and_parts (nat_lt (length names) 65536) (list_all is_name names) are in
    omega (arith, length-append (u16_field (length names)) (concat (map name_field names)), u16-long (length names), each-long names parts.1)

named-long : (name : List ℕ) → IsTrue (is_name name) → length (name_field name ++ []) ≤ 33
named-long name is = omega (arith, length-append name [], name-short name is)

parts-long : (entry : OfficeEntry) → IsTrue (entry_fits entry) → length (concat (parts_of entry)) + 1 ≤ most_bytes entry
parts-long (AddUser user) fits = omega (arith, named-long user fits)
parts-long (AddBoard board) fits = omega (arith, named-long board fits)
parts-long (TakeAddress address user mailbox) fits =
    let first = and_parts (is_name address && is_name user) (is_name mailbox) fits in
    let second = and_parts (is_name address) (is_name user) first.0 in
    omega (arith, name-short address second.0, name-short user second.1, name-short mailbox first.1, length-append address (name_field user ++ (name_field mailbox ++ [])), length-append user (name_field mailbox ++ []), length-append mailbox [])
parts-long (DropAddress address) fits = omega (arith, named-long address fits)
parts-long (Accept names message) fits =
    let parts = and_parts (are_names names) (is_message message) fits in
    omega (arith, ap length (concat-append (names_fields names) (message_fields message)), length-append (concat (names_fields names)) (concat (message_fields message)), names-long names parts.0, message-long message)
parts-long (Pulled user number) fits =
    let parts = and_parts (is_name user) (nat_lt number 18446744073709551616) fits in
    omega (arith, name-short user parts.0, length-append user (u64_field number ++ []), length-append (u64_field number) [], u64-long number)

pub entry-length : EntryLength
entry-length entry fits = (omega arith, omega (arith, parts-long entry fits))

short-enough : (entry : OfficeEntry) → IsTrue (entry_fits entry) → most_bytes entry ≤ 8388608
short-enough (Accept names message) fits =
    let parts = and_parts (are_names names) (is_message message) fits in
    let few = ltb-true (length names) 65536 (and_parts (nat_lt (length names) 65536) (list_all is_name names) parts.0).0 in
    let size = leb-true (size_of message) 65536 (and_parts (list_all is_line message) (nat_le (size_of message) 65536) parts.1).1 in
    omega (arith, few, size)
short-enough _ fits = omega arith

pub entry-is-short : EntryIsShort
entry-is-short entry fits =
    let length-is = entry-length entry fits in
    (length-is.0, omega (arith, length-is.1, short-enough entry fits))
