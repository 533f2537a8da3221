-- The entries and the records of an account as they are spelled.
use Rattle.std.specs.Prelude.{IsTrue}
use Rattle.pc_account_history.specs.declared.entry.Entry.{Entry}
use Rattle.pc_account_history.specs.Record.{AccountRecord}
use Rattle.pc_fields.specs.Spelled.{Spelling}
use Rattle.pc_account_spelling.specs.Spelling.{fields_of, fields_of_record}
use Rattle.pc_account_spelling.specs.EntryForm.{entry_fits}
use Rattle.pc_account_spelling.specs.EntryFormat.{entry_format}
use Rattle.pc_account_spelling.specs.RecordForm.{CanBeSaved}
use Rattle.pc_account_spelling.specs.RecordFormat.{record_format}

abbrev pub entries : Spelling Entry
entries = record { format = entry_format; fields = fields_of; fits = λ entry. IsTrue (entry_fits entry) }

abbrev pub records : Spelling AccountRecord
records = record { format = record_format; fields = fields_of_record; fits = CanBeSaved }
