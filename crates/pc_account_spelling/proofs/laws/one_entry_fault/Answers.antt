use Rattle.pc_account_spelling.proofs.EntryLaws.{one-entry-fault}
use Rattle.pc_account_spelling.proofs.laws.one_entry_fault.Goals as goal

pub returns : goal.returns
returns c = one-entry-fault
