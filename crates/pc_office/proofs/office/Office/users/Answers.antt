use Rattle.std.proofs.Common.{sym, ap, ◌∙◌}
use Rattle.std.specs.Map.{keys_of}
use Rattle.pc_office_history.specs.Record.{OfficeRecord}
use Rattle.pc_office_history.specs.Known.{Known}
use Rattle.pc_office_holdings.proofs.Noted.{keys-noted}
use Rattle.pc_office.proofs.Standing.{said_is_known}
use Rattle.pc_office.proofs.office.Office.users.Goals as goal

pub returns-clause-held : goal.returns-clause-held
returns-clause-held c = c.names.ensures ∙ ap keys_of c.users.ensures ∙ sym (keys-noted c.self.inside.holdings.users) ∙ ap (λ (r : OfficeRecord). keys_of r.users) c.self.view_is

pub returns-clause-history : goal.returns-clause-history
returns-clause-history c = λ h stands. returns-clause-held c ∙ ap (λ (k : Known). k.users) (said_is_known c.args.self.now h stands)
