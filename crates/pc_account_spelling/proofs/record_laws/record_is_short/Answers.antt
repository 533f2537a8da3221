use Rattle.pc_account_spelling.proofs.RecordLaws.{record-is-short}
use Rattle.pc_account_spelling.proofs.record_laws.record_is_short.Goals as goal

pub returns : goal.returns
returns c = record-is-short
