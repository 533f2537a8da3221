use Rattle.std.proofs.Common.{◌≡◌, ℕ, List, Option, unwrap_or, option_map, sym, ap, ◌∙◌}
use Rattle.std.specs.Map.{lookup}
use Rattle.pc_tables.specs.Table.{same}
use Rattle.pc_office_history.specs.Record.{OfficeRecord}
use Rattle.pc_office_history.specs.Known.{Known, said_by}
use Rattle.pc_office_holdings.specs.declared.users.Standing.{Standing}
use Rattle.pc_office_holdings.specs.Held.{Held, record_in}
use Rattle.pc_office_holdings.proofs.Noted.{lookup-noted}
use Rattle.pc_office.proofs.Standing.{said_is_known}
use Rattle.pc_office.proofs.office.Office.noted.Goals as goal

-- what is noted of a user whose standing is looked up
found-noted : (held : Held) (r : OfficeRecord) (user : List ℕ) (found : Option Standing) → record_in held ≡ r → found ≡ lookup (same user) held.users → unwrap_or (option_map (λ (standing : Standing). standing.noted) found) 0 ≡ (said_by r).noted user
found-noted held r user found is e =
    ap (λ (o : Option Standing). unwrap_or (option_map (λ (standing : Standing). standing.noted) o) 0) e
    ∙ ap (λ (o : Option ℕ). unwrap_or o 0) (sym (lookup-noted user held.users))
    ∙ ap (λ (s : OfficeRecord). (said_by s).noted user) is

pub returns-in-Some-clause-held : goal.returns-in-Some-clause-held
returns-in-Some-clause-held c = found-noted c.self.inside.holdings c.args.self.now c.args.user.now _ c.self.view_is (sym c.in-Some.is ∙ c.get.ensures ∙ ap (lookup (same c.args.user.now)) c.users.ensures)

pub returns-in-Some-clause-history : goal.returns-in-Some-clause-history
returns-in-Some-clause-history c = λ h stands. returns-in-Some-clause-held c ∙ ap (λ (k : Known). k.noted c.args.user.now) (said_is_known c.args.self.now h stands)

pub returns-in-None-clause-held : goal.returns-in-None-clause-held
returns-in-None-clause-held c = found-noted c.self.inside.holdings c.args.self.now c.args.user.now _ c.self.view_is (sym c.in-None.is ∙ c.get.ensures ∙ ap (lookup (same c.args.user.now)) c.users.ensures)

pub returns-in-None-clause-history : goal.returns-in-None-clause-history
returns-in-None-clause-history c = λ h stands. returns-in-None-clause-held c ∙ ap (λ (k : Known). k.noted c.args.user.now) (said_is_known c.args.self.now h stands)
