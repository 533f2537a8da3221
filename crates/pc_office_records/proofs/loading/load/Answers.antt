use Rattle.pc_fields.proofs.Spelled.{is_within, is_read_of, if_ended}
use Rattle.pc_office_spelling.proofs.Spelled.{records-spelled}
use Rattle.pc_office_holdings.specs.Held.{record_in, AreAllCounted}
use Rattle.pc_office_records.proofs.ReadRecord.{office_sound}
use Rattle.pc_office_spelling.specs.Spelled.{records}
use Rattle.pc_office_records.proofs.loading.load.Goals as goal

pub end-requires : goal.end-requires
end-requires c = is_within records records-spelled record_in c.read_record-read.result c.new-cursor.ensures c.left.ensures c.read_record-read.ensures.read

pub returns-clause-found : goal.returns-clause-found
returns-clause-found c = (is_read_of records records-spelled record_in c.read_record-read.result c.new-cursor.ensures c.left.ensures c.read_record-read.ensures.read c.end.ensures).found

pub returns-clause-sound : goal.returns-clause-sound
returns-clause-sound c = office_sound c.args.bytes.now c.end.result (returns-clause-found c) (if_ended AreAllCounted c.read_record-read.result _ _ c.end.result c.end.ensures c.read_record-read.ensures.counted)

pub returns-clause-fault : goal.returns-clause-fault
returns-clause-fault c = (is_read_of records records-spelled record_in c.read_record-read.result c.new-cursor.ensures c.left.ensures c.read_record-read.ensures.read c.end.ensures).fault

pub returns-clause-within : goal.returns-clause-within
returns-clause-within c = (is_read_of records records-spelled record_in c.read_record-read.result c.new-cursor.ensures c.left.ensures c.read_record-read.ensures.read c.end.ensures).within
