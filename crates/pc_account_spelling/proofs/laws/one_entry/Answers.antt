use Rattle.pc_account_spelling.proofs.EntryLaws.{one-entry}
use Rattle.pc_account_spelling.proofs.laws.one_entry.Goals as goal

pub returns : goal.returns
returns c = one-entry
