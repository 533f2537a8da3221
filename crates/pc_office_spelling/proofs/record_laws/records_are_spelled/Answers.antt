use Rattle.pc_office_spelling.proofs.Spelled.{records-spelled}
use Rattle.pc_office_spelling.proofs.record_laws.records_are_spelled.Goals as goal

pub returns : goal.returns
returns c = records-spelled
