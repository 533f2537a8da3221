-- The laws of the bytes of records.
use Rattle.pc_fields.proofs.Spelled.{one-value, is-read, one-fault}
use Rattle.pc_office_spelling.specs.RecordLaws.{RecordIsShort}
use Rattle.pc_office_spelling.proofs.RecordSize.{record_size}
use Rattle.pc_office_spelling.proofs.Spelled.{records-spelled}
use Rattle.pc_office_spelling.specs.Spelled.{records}
use Rattle.pc_fields.specs.Spelled.{OneValue, IsRead, OneFault}

pub one-record : OneValue records
one-record = one-value records records-spelled

pub record-is-read : IsRead records
record-is-read = is-read records records-spelled

pub one-record-fault : OneFault records
one-record-fault = one-fault records records-spelled

pub record-is-short : RecordIsShort
record-is-short = record_size
