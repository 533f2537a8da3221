use Rattle.pc_account_spelling.proofs.EntryLaws.{entry-is-read}
use Rattle.pc_account_spelling.proofs.laws.entry_is_read.Goals as goal

pub returns : goal.returns
returns c = entry-is-read
