use Rattle.std.proofs.Common.{sym, ◌∙◌}
use Rattle.pc_office_holdings.specs.Held.{record_in}
use Rattle.pc_office.proofs.Standing.{stands-base, one-history}
use Rattle.pc_office.proofs.office.Office.load.Goals as goal

pub returns-in-Ok-clause-base : goal.returns-in-Ok-clause-base
returns-in-Ok-clause-base c = λ number. stands-base (record_in c.in-Ok.holdings) number c.in-Ok.ensures.found.0.canonical

pub returns-in-Ok-clause-history : goal.returns-in-Ok-clause-history
returns-in-Ok-clause-history c = λ h legal fits saved. one-history h (record_in c.in-Ok.holdings) legal fits c.in-Ok.ensures.found.0 (saved ∙ sym c.in-Ok.ensures.found.1)
