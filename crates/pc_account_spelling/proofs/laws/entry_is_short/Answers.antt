use Rattle.pc_account_spelling.proofs.EntryLaws.{entry-is-short}
use Rattle.pc_account_spelling.proofs.laws.entry_is_short.Goals as goal

pub returns : goal.returns
returns c = entry-is-short
