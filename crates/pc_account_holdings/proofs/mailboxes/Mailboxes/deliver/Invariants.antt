use Rattle.std.proofs.Common.{◌≡◌, drop}
use Rattle.pc_account_holdings.specs.Mailboxes.{delivered, AreRoomFor}
use Rattle.pc_account_holdings.proofs.mailboxes.Mailboxes.deliver.Given as goal

abbrev pub invariant-loop-letter : goal.invariant-loop-letter
invariant-loop-letter l = (delivered l.at (drop l.letter-index l.letters) l.self ≡ delivered l.at l.letters l.initial.self) × AreRoomFor l.at (drop l.letter-index l.letters) l.self
