use Rattle.pc_account_spelling.proofs.RecordLaws.{record-is-read}
use Rattle.pc_account_spelling.proofs.record_laws.record_is_read.Goals as goal

pub returns : goal.returns
returns c = record-is-read
