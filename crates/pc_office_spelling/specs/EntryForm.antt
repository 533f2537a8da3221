-- Which entries can be written: their names, numbers and lists fit their fields.
use Rattle.std.specs.Prelude.{◌≡◌, ℕ, Bool, IsTrue, ◌&&◌, nat_lt, List, length}
use Rattle.std.specs.List.{list_all}
use Rattle.pc_base.specs.Name.{is_name}
use Rattle.pc_fields.specs.Fitting.{is_message}
use Rattle.pc_fields.specs.Fault.{IsFirstFault}
use Rattle.pc_office_history.specs.declared.entry.OfficeEntry.{OfficeEntry}
use Rattle.pc_office_history.specs.declared.entry.OfficeEntry.TheVariants.{AddUser, AddBoard, TakeAddress, DropAddress, Accept, Pulled}
use Rattle.pc_office_spelling.specs.Spelling.{fields_of}

-- names whose number fits two bytes
abbrev pub are_names : List (List ℕ) → Bool
are_names names = nat_lt (length names) 65536 && list_all is_name names

-- the entry fits its fields
abbrev pub entry_fits : OfficeEntry → Bool
entry_fits (AddUser user) = is_name user
entry_fits (AddBoard board) = is_name board
entry_fits (TakeAddress address user mailbox) = is_name address && is_name user && is_name mailbox
entry_fits (DropAddress address) = is_name address
entry_fits (Accept names message) = are_names names && is_message message
entry_fits (Pulled user number) = is_name user && nat_lt number 18446744073709551616

-- the fields are those of an entry that fits
abbrev pub IsEntry : List (List ℕ) → Type 0
IsEntry fields = (entry : OfficeEntry) × IsTrue (entry_fits entry) × (fields ≡ fields_of entry)

-- the bytes are no entry, and this is the place of the first field at which none goes on
abbrev pub IsEntryFault : List ℕ → ℕ → Type 0
IsEntryFault bytes place = IsFirstFault IsEntry bytes place
