use Rattle.std.proofs.Common.{refl}
use Rattle.pc_office.proofs.office.Office.number_from.Goals as goal

pub returns-clause-base : goal.returns-clause-base
returns-clause-base c = λ number stands. record { legal = stands.legal; held = refl }
