use Rattle.pc_account_spelling.proofs.RecordLaws.{one-record-fault}
use Rattle.pc_account_spelling.proofs.record_laws.one_record_fault.Goals as goal

pub returns : goal.returns
returns c = one-record-fault
