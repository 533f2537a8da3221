use Rattle.std.proofs.Common.{sym, ◌∙◌}
use Rattle.pc_account.proofs.Standing.{stands-base, one-history}
use Rattle.pc_account.proofs.account.Account.load.Goals as goal

pub returns-in-Ok-clause-base : goal.returns-in-Ok-clause-base
returns-in-Ok-clause-base c = stands-base c.in-Ok.holdings c.in-Ok.ensures.canonical

pub returns-in-Ok-clause-history : goal.returns-in-Ok-clause-history
returns-in-Ok-clause-history c = λ h legal fits saved. one-history h c.in-Ok.holdings.held legal fits c.in-Ok.ensures.found.0 (saved ∙ sym c.in-Ok.ensures.found.1)
