use Rattle.pc_office_history.proofs.Names.{read-off}
use Rattle.pc_office_history.proofs.laws.record_is_read_off.Goals as goal

pub returns : goal.returns
returns c = read-off
