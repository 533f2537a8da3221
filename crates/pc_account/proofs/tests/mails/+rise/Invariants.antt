use Rattle.std.proofs.Common.{length}
use Rattle.pc_account.proofs.tests.mails.+rise.Given as goal

abbrev pub decreases-rise : goal.decreases-rise
decreases-rise l = length l.mails.now
