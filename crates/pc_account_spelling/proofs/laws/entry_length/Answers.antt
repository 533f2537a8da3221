use Rattle.pc_account_spelling.proofs.EntryLaws.{entry-length}
use Rattle.pc_account_spelling.proofs.laws.entry_length.Goals as goal

pub returns : goal.returns
returns c = entry-length
