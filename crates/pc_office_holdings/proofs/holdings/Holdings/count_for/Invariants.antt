use Rattle.std.proofs.Common.{◌≡◌, take}
use Rattle.pc_office_history.specs.Record.{mails_for}
use Rattle.pc_office_holdings.specs.Step.{standing_of}
use Rattle.pc_office_holdings.proofs.holdings.Holdings.count_for.Given as goal

abbrev pub invariant-loop-mail : goal.invariant-loop-mail
invariant-loop-mail l = l.standing ≡ standing_of l.number (mails_for l.user (take l.mail-index l.mail-items))
