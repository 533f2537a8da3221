use Rattle.std.proofs.Common.{subst}
use Rattle.pc_base.specs.AskFault.{Tells}
use Rattle.pc_office_history.specs.Known.{Known, said_by}
use Rattle.pc_office_history.specs.Record.{OfficeRecord}
use Rattle.pc_office.specs.Plan.{planned}
use Rattle.pc_office.proofs.Planned.{told-follows, told-accepted}
use Rattle.pc_office.proofs.Standing.{said_is_known}
use Rattle.pc_office.proofs.office.Office.plan.Goals as goal

pub returns-clause-held : goal.returns-clause-held
returns-clause-held c = subst (λ (r : OfficeRecord). Tells (planned (said_by r) c.args.wish.now) c.plan.result) c.self.view_is c.plan.ensures.tells

pub returns-clause-history : goal.returns-clause-history
returns-clause-history c = λ h stands.
    subst (λ (k : Known). Tells (planned k c.args.wish.now) c.plan.result) (said_is_known c.args.self.now h stands)
    (subst (λ (r : OfficeRecord). Tells (planned (said_by r) c.args.wish.now) c.plan.result) c.self.view_is c.plan.ensures.tells)

pub returns-clause-follows : goal.returns-clause-follows
returns-clause-follows c = told-follows (said_by c.args.self.now) c.args.wish.now c.plan.result (subst (λ (r : OfficeRecord). Tells (planned (said_by r) c.args.wish.now) c.plan.result) c.self.view_is c.plan.ensures.tells)

pub returns-clause-accepted : goal.returns-clause-accepted
returns-clause-accepted c = told-accepted c.args.self.now c.args.wish.now c.plan.result (subst (λ (r : OfficeRecord). Tells (planned (said_by r) c.args.wish.now) c.plan.result) c.self.view_is c.plan.ensures.tells) c.plan.ensures.fits
