-- What holds of the bytes of entries.
use Rattle.std.specs.Prelude.{◌≡◌, ℕ, ◌+◌, ◌*◌, ◌≤◌, IsTrue, List, [], length}
use Rattle.pc_account_history.specs.declared.entry.Entry.{Entry}
use Rattle.pc_account_history.specs.declared.entry.Entry.TheVariants.{Forget, Pull}
use Rattle.pc_account_history.specs.declared.limits.TheConstants.{MOST_CHANGES}
use Rattle.pc_account_spelling.specs.Spelling.{spelled_entry}
use Rattle.pc_account_spelling.specs.EntryForm.{entry_fits, IsEntryFault}

-- how many bytes an entry has at most
abbrev pub most_bytes : Entry → ℕ
most_bytes (Forget _ _ uids) = 71 + 4 * length uids
most_bytes (Pull _ letters) = 11 + 65573 * length letters
most_bytes _ = 71

abbrev pub EntryLength : Type 0
EntryLength = (entry : Entry) → IsTrue (entry_fits entry) → (1 ≤ length (spelled_entry entry)) × (length (spelled_entry entry) ≤ most_bytes entry)

-- the uids that a client forgets
abbrev pub forgotten : Entry → List ℕ
forgotten (Forget _ _ uids) = uids
forgotten _ = []

-- an entry that forgets no more uids than an account has changes is short enough for a store
abbrev pub EntryIsShort : Type 0
EntryIsShort = (entry : Entry) → IsTrue (entry_fits entry) → length (forgotten entry) ≤ MOST_CHANGES → (1 ≤ length (spelled_entry entry)) × (length (spelled_entry entry) ≤ 8388608)
