use Rattle.pc_account_spelling.proofs.Spelled.{records-spelled}
use Rattle.pc_account_spelling.proofs.record_laws.records_are_spelled.Goals as goal

pub returns : goal.returns
returns c = records-spelled
