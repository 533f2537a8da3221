use Rattle.pc_account_spelling.proofs.Spelled.{entries-spelled}
use Rattle.pc_account_spelling.proofs.laws.entries_are_spelled.Goals as goal

pub returns : goal.returns
returns c = entries-spelled
