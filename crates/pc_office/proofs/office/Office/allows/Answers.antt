use Rattle.std.proofs.Common.{ap, ◌∙◌}
use Rattle.pc_office_history.specs.Known.{Known, said_by}
use Rattle.pc_office_history.specs.Record.{OfficeRecord}
use Rattle.pc_office_holdings.specs.State.{may_follow}
use Rattle.pc_office.proofs.Standing.{said_is_known}
use Rattle.pc_office.proofs.office.Office.allows.Goals as goal

pub returns-clause-history : goal.returns-clause-history
returns-clause-history c = λ h stands. c.may_follow.ensures ∙ ap (λ (k : Known). may_follow k c.args.entry.now) (ap (λ (r : OfficeRecord). said_by r) c.self.view_is ∙ said_is_known c.args.self.now h stands)
