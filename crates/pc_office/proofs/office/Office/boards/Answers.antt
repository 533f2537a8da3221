use Rattle.std.proofs.Common.{ap, ◌∙◌}
use Rattle.std.specs.Map.{keys_of}
use Rattle.pc_office_history.specs.Record.{OfficeRecord}
use Rattle.pc_office_history.specs.Known.{Known}
use Rattle.pc_office.proofs.Standing.{said_is_known}
use Rattle.pc_office.proofs.office.Office.boards.Goals as goal

pub returns-clause-history : goal.returns-clause-history
returns-clause-history c = λ h stands. c.names.ensures ∙ ap keys_of c.boards.ensures ∙ ap (λ (r : OfficeRecord). keys_of r.boards) c.self.view_is ∙ ap (λ (k : Known). k.boards) (said_is_known c.args.self.now h stands)
