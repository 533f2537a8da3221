-- Which entries can be written: their numbers, names and lists fit their fields.
use Rattle.std.specs.Prelude.{◌≡◌, ℕ, Bool, IsTrue, ◌&&◌, ◌==◌, nat_lt, nat_le, List, length}
use Rattle.std.specs.List.{list_all}
use Rattle.pc_base.specs.Name.{is_name}
use Rattle.pc_account_history.specs.declared.entry.Entry.{Entry}
use Rattle.pc_account_history.specs.declared.entry.Entry.TheVariants.{MakeMailbox, DropMailbox, Flag, Expunge, Copy, MakeClient, DropClient, ResetClient, ResetMailbox, Forget, Pull, Password, Subscribe, Unsubscribe, Mark}
use Rattle.pc_message.specs.declared.limits.TheConstants.{MOST_LETTERS}
use Rattle.pc_fields.specs.Fitting.{is_u32, is_message}
use Rattle.pc_account_spelling.specs.Spelling.{fields_of}
use Rattle.pc_fields.specs.Fault.{IsFirstFault}

abbrev pub is_letter : List ℕ × List (List ℕ) → Bool
is_letter letter = is_name letter.0 && is_message letter.1

-- the entry fits its fields
abbrev pub entry_fits : Entry → Bool
entry_fits (MakeMailbox mailbox) = is_name mailbox
entry_fits (DropMailbox mailbox) = is_name mailbox
entry_fits (Flag mailbox uid flag on) = is_name mailbox && is_u32 uid && nat_lt flag 256
entry_fits (Expunge mailbox) = is_name mailbox
entry_fits (Copy mailbox uid target) = is_name mailbox && is_u32 uid && is_name target
entry_fits (MakeClient client) = is_name client
entry_fits (DropClient client) = is_name client
entry_fits (ResetClient client) = is_name client
entry_fits (ResetMailbox client mailbox) = is_name client && is_name mailbox
entry_fits (Forget client mailbox uids) = is_name client && is_name mailbox && is_u32 (length uids) && list_all is_u32 uids
entry_fits (Pull upto letters) = nat_lt upto 18446744073709551616 && nat_lt 0 (length letters) && nat_le (length letters) MOST_LETTERS && list_all is_letter letters
entry_fits (Password digest) = length digest == 32
entry_fits (Subscribe board) = is_name board
entry_fits (Unsubscribe board) = is_name board
entry_fits (Mark board uid) = is_name board && is_u32 uid

-- the fields are those of an entry that fits
abbrev pub IsEntry : List (List ℕ) → Type 0
IsEntry fields = (entry : Entry) × IsTrue (entry_fits entry) × (fields ≡ fields_of entry)

-- the bytes are no entry, and this is the place of the first field at which none goes on
abbrev pub IsEntryFault : List ℕ → ℕ → Type 0
IsEntryFault bytes place = IsFirstFault IsEntry bytes place
