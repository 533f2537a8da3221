-- What holds of the bytes of records.
use Rattle.std.specs.Prelude.{◌≡◌, ℕ, ◌≤◌, List, length}
use Rattle.pc_office_history.specs.Record.{OfficeRecord}
use Rattle.pc_office_spelling.specs.RecordSpelling.{spelled_record}
use Rattle.pc_office_spelling.specs.RecordForm.{CanBeSaved, IsRecordFault}

-- a record is short enough for a base
abbrev pub RecordIsShort : Type 0
RecordIsShort = (r : OfficeRecord) → CanBeSaved r → length (spelled_record r) ≤ 1073741824
