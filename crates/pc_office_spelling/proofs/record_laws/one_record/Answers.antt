use Rattle.pc_office_spelling.proofs.RecordLaws.{one-record}
use Rattle.pc_office_spelling.proofs.record_laws.one_record.Goals as goal

pub returns : goal.returns
returns c = one-record
