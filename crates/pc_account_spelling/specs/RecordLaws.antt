-- What holds of the bytes of records.
use Rattle.std.specs.Prelude.{◌≡◌, ℕ, ◌^◌, ◌<◌, ◌≤◌, true, IsTrue, List, length, None}
use Rattle.pc_account_history.specs.Record.{AccountRecord}
use Rattle.pc_account_history.specs.Known.{said_by}
use Rattle.pc_account_history.specs.Allowed.{is_allowed}
use Rattle.pc_account_history.specs.Limits.{limit_passed}
use Rattle.pc_account_history.specs.Step.{after}
use Rattle.pc_account_history.specs.Legal.{IsCanonical}
use Rattle.pc_account_history.specs.declared.entry.Entry.{Entry}
use Rattle.pc_account_history.specs.declared.entry.Entry.TheVariants.{Forget}
use Rattle.pc_account_history.specs.declared.limits.TheConstants.{MOST_CHANGES}
use Rattle.pc_account_spelling.specs.Spelling.{spelled_record}
use Rattle.pc_account_spelling.specs.EntryForm.{entry_fits}
use Rattle.pc_account_spelling.specs.RecordForm.{fits_record, CanBeSaved, IsRecordFault}

-- a record is short enough for a base
abbrev pub RecordIsShort : Type 0
RecordIsShort = (r : AccountRecord) → CanBeSaved r → length (spelled_record r) ≤ 1073741824

-- an allowed entry takes no more changes off a list than there can be
abbrev pub ForgetIsShort : Type 0
ForgetIsShort = (r : AccountRecord) (number : ℕ) (client mailbox uids : List ℕ) → IsCanonical r number → is_allowed (said_by r number) (Forget client mailbox uids) ≡ true → length uids ≤ MOST_CHANGES

-- what fits its fields fits again after an allowed entry that fits and passes no limit
abbrev pub StepFits : Type 0
StepFits = (r : AccountRecord) (number : ℕ) (entry : Entry) → IsCanonical r number → IsTrue (fits_record r) → is_allowed (said_by r number) entry ≡ true → limit_passed (said_by r number) entry ≡ None → IsTrue (entry_fits entry) → number < 2 ^ 63 → IsTrue (fits_record (after r number entry))
