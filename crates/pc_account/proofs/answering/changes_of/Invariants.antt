use Rattle.std.proofs.Common.{◌≡◌, map, take}
use Rattle.pc_account.specs.Answers.{told_of}
use Rattle.pc_account.proofs.answering.changes_of.Given as goal

abbrev pub invariant-loop-listed : goal.invariant-loop-listed
invariant-loop-listed l = l.changes ≡ map (told_of l.mailbox) (take l.listed-index l.listed-items)
