use Rattle.std.proofs.Common.{ap, ◌∙◌}
use Rattle.pc_office_history.specs.Record.{OfficeRecord}
use Rattle.pc_office_history.specs.Known.{Known}
use Rattle.pc_office.proofs.Standing.{said_is_known}
use Rattle.pc_office.proofs.office.Office.accepted.Goals as goal

pub returns-clause-history : goal.returns-clause-history
returns-clause-history c = λ h stands. c.accepted.ensures ∙ ap (λ (r : OfficeRecord). r.accepted) c.self.view_is ∙ ap (λ (k : Known). k.accepted) (said_is_known c.args.self.now h stands)
