-- The entries and the records of the office are read from their own fields and from no other.
use Rattle.std.proofs.Common.{IsTrue}
use Rattle.pc_fields.specs.Spelled.{Spells}
use Rattle.pc_fields.proofs.Spelled.{good_spells}
use Rattle.pc_office_history.specs.declared.entry.OfficeEntry.{OfficeEntry}
use Rattle.pc_office_history.specs.Record.{OfficeRecord}
use Rattle.pc_office_spelling.specs.Spelling.{fields_of}
use Rattle.pc_office_spelling.specs.EntryForm.{entry_fits}
use Rattle.pc_office_spelling.specs.EntryFormat.{entry_format}
use Rattle.pc_office_spelling.specs.RecordSpelling.{fields_of_record}
use Rattle.pc_office_spelling.specs.RecordForm.{CanBeSaved}
use Rattle.pc_office_spelling.specs.RecordFormat.{record_format}
use Rattle.pc_office_spelling.proofs.EntryFormats.{IsReadEntry, good_entry, entry_reads}
use Rattle.pc_office_spelling.proofs.GoodRecord.{IsReadRecord, good_record}
use Rattle.pc_office_spelling.proofs.ReadsRecord.{reads_record}
use Rattle.pc_office_spelling.specs.Spelled.{entries, records}

pub entries-spelled : Spells entries
entries-spelled = good_spells entries IsReadEntry good_entry (λ fields entry is. (is.fits, is.spelled)) entry_reads

pub records-spelled : Spells records
records-spelled = good_spells records IsReadRecord good_record (λ fields r is. (is.saved, is.spelled)) reads_record
