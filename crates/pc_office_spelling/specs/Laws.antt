-- What holds of the bytes of entries.
use Rattle.std.specs.Prelude.{◌≡◌, ℕ, ◌+◌, ◌*◌, ◌≤◌, IsTrue, List, length}
use Rattle.pc_message.specs.Message.{size_of}
use Rattle.pc_office_history.specs.declared.entry.OfficeEntry.{OfficeEntry}
use Rattle.pc_office_history.specs.declared.entry.OfficeEntry.TheVariants.{Accept}
use Rattle.pc_office_spelling.specs.Spelling.{spelled_entry}
use Rattle.pc_office_spelling.specs.EntryForm.{entry_fits, IsEntryFault}

-- how many bytes an entry has at most
abbrev pub most_bytes : OfficeEntry → ℕ
most_bytes (Accept names message) = 7 + 33 * length names + size_of message
most_bytes _ = 100

abbrev pub EntryLength : Type 0
EntryLength = (entry : OfficeEntry) → IsTrue (entry_fits entry) → (1 ≤ length (spelled_entry entry)) × (length (spelled_entry entry) ≤ most_bytes entry)

-- an entry is short enough for a store, whether or not it is allowed or passes a limit
abbrev pub EntryIsShort : Type 0
EntryIsShort = (entry : OfficeEntry) → IsTrue (entry_fits entry) → (1 ≤ length (spelled_entry entry)) × (length (spelled_entry entry) ≤ 8388608)
