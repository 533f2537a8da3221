-- The entries and the records of an account are read from their own fields and from no other.
use Rattle.std.proofs.Common.{IsTrue, []}
use Rattle.pc_account_history.specs.declared.entry.Entry.{Entry}
use Rattle.pc_account_history.specs.Record.{AccountRecord}
use Rattle.pc_account_history.specs.Legal.{IsCanonical}
use Rattle.pc_fields.specs.Spelled.{Spells}
use Rattle.pc_fields.proofs.Good.{good_reads}
use Rattle.pc_fields.proofs.Spelled.{good_spells}
use Rattle.pc_account_spelling.specs.Spelling.{fields_of, fields_of_record}
use Rattle.pc_account_spelling.specs.EntryForm.{entry_fits}
use Rattle.pc_account_spelling.specs.EntryFormat.{entry_format}
use Rattle.pc_account_spelling.specs.RecordForm.{CanBeSaved}
use Rattle.pc_account_spelling.specs.RecordFormat.{record_format}
use Rattle.pc_account_spelling.proofs.EntryFormats.{entry_reads, reads_entry, entry_open}
use Rattle.pc_account_spelling.proofs.GoodRecord.{IsReadRecord, good_record}
use Rattle.pc_account_spelling.proofs.ReadsRecord.{reads_record}
use Rattle.pc_account_spelling.specs.Spelled.{entries, records}

pub entries-spelled : Spells entries
entries-spelled = record { reads = entry_reads; back = reads_entry; goes_on = entry_open }

pub records-spelled : Spells records
records-spelled = good_spells records IsReadRecord good_record (λ fields r is. (record { number = 9223372036854775808; canonical = is.canonical; fits = is.fits }, is.spelled)) reads_record

-- each record that can be saved is canonical before the last number
pub canonical_last : (r : AccountRecord) → CanBeSaved r → IsCanonical r 9223372036854775808
canonical_last r saved = (good_reads IsReadRecord record_format [] (fields_of_record r) r good_record (reads_record r saved)).canonical
