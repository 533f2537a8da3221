use Rattle.std.proofs.Common.{◌≡◌, map, take}
use Rattle.pc_account_holdings.specs.State.{said}
use Rattle.pc_account.specs.Taking.{letter_of}
use Rattle.pc_account.proofs.taking.letters_of.Given as goal

abbrev pub invariant-loop-mail : goal.invariant-loop-mail
invariant-loop-mail l = l.letters ≡ map (letter_of (said l.holdings)) (take l.mail-index l.mails)
