-- How a store writes the entries of the office: field by field, one after the other.
use Rattle.std.specs.Prelude.{ℕ, List, [], ◌∷◌, ◌++◌, length, map}
use Rattle.std.specs.List.{concat}
use Rattle.pc_fields.specs.FieldBytes.{u8_field, u16_field, u64_field, name_field, message_fields}
use Rattle.pc_office_history.specs.declared.entry.OfficeEntry.{OfficeEntry}
use Rattle.pc_office_history.specs.declared.entry.OfficeEntry.TheVariants.{AddUser, AddBoard, TakeAddress, DropAddress, Accept, Pulled}
use Rattle.pc_office_history.specs.Entry.{tag_of}

-- names: how many there are, and each of them
abbrev pub names_fields : List (List ℕ) → List (List ℕ)
names_fields names = u16_field (length names) ∷ map name_field names

-- what an entry says of itself behind its tag
abbrev pub parts_of : OfficeEntry → List (List ℕ)
parts_of (AddUser user) = name_field user ∷ []
parts_of (AddBoard board) = name_field board ∷ []
parts_of (TakeAddress address user mailbox) = name_field address ∷ name_field user ∷ name_field mailbox ∷ []
parts_of (DropAddress address) = name_field address ∷ []
parts_of (Accept names message) = names_fields names ++ message_fields message
parts_of (Pulled user number) = name_field user ∷ u64_field number ∷ []

-- the fields of an entry
abbrev pub fields_of : OfficeEntry → List (List ℕ)
fields_of entry = u8_field (tag_of entry) ∷ parts_of entry

-- the bytes of an entry
abbrev pub spelled_entry : OfficeEntry → List ℕ
spelled_entry entry = concat (fields_of entry)
