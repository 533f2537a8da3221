use Rattle.pc_account_spelling.proofs.RecordLaws.{one-record}
use Rattle.pc_account_spelling.proofs.record_laws.one_record.Goals as goal

pub returns : goal.returns
returns c = one-record
