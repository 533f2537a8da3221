-- Entries as they are read.
use Rattle.std.specs.Prelude.{ℕ, ◌==◌, List, if◌then◌else◌}
use Rattle.pc_fields.specs.Fields.{u8_kind, u16_kind, u64_kind, within}
use Rattle.pc_fields.specs.Format.{Format, ends, goes, bind, repeated, a_name}
use Rattle.pc_fields.specs.MessageFormat.{message_format}
use Rattle.pc_office_history.specs.declared.entry.OfficeEntry.{OfficeEntry}
use Rattle.pc_office_history.specs.declared.entry.OfficeEntry.TheVariants.{AddUser, AddBoard, TakeAddress, DropAddress, Accept, Pulled}

abbrev pub name_format : Format (List ℕ)
name_format = a_name (λ name. ends name)

abbrev pub names_format : Format (List (List ℕ))
names_format = goes u16_kind (within 0 65535) (λ count. repeated count name_format)

abbrev pub named_format : (List ℕ → OfficeEntry) → Format OfficeEntry
named_format entry = a_name (λ name. ends (entry name))

abbrev pub take_format : Format OfficeEntry
take_format = a_name (λ address. a_name (λ user. a_name (λ mailbox. ends (TakeAddress address user mailbox))))

abbrev pub accept_format : Format OfficeEntry
accept_format = bind names_format (λ names. bind message_format (λ message. ends (Accept names message)))

abbrev pub pulled_format : Format OfficeEntry
pulled_format = a_name (λ user. goes u64_kind (within 0 18446744073709551615) (λ number. ends (Pulled user number)))

-- what follows this tag
abbrev pub parts_format : ℕ → Format OfficeEntry
parts_format tag = if tag == 1 then named_format AddUser
    else (if tag == 2 then named_format AddBoard
    else (if tag == 3 then take_format
    else (if tag == 4 then named_format DropAddress
    else (if tag == 5 then accept_format
    else pulled_format))))

abbrev pub entry_format : Format OfficeEntry
entry_format = goes u8_kind (within 1 6) parts_format
