-- The entries and the records of the office as they are spelled.
use Rattle.std.specs.Prelude.{IsTrue}
use Rattle.pc_office_history.specs.declared.entry.OfficeEntry.{OfficeEntry}
use Rattle.pc_office_history.specs.Record.{OfficeRecord}
use Rattle.pc_fields.specs.Spelled.{Spelling}
use Rattle.pc_office_spelling.specs.Spelling.{fields_of}
use Rattle.pc_office_spelling.specs.EntryForm.{entry_fits}
use Rattle.pc_office_spelling.specs.EntryFormat.{entry_format}
use Rattle.pc_office_spelling.specs.RecordSpelling.{fields_of_record}
use Rattle.pc_office_spelling.specs.RecordForm.{CanBeSaved}
use Rattle.pc_office_spelling.specs.RecordFormat.{record_format}

abbrev pub entries : Spelling OfficeEntry
entries = record { format = entry_format; fields = fields_of; fits = λ entry. IsTrue (entry_fits entry) }

abbrev pub records : Spelling OfficeRecord
records = record { format = record_format; fields = fields_of_record; fits = CanBeSaved }
