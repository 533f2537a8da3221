use Rattle.std.proofs.Common.{IsTrue, sym, ap, ◌∙◌, subst}
use Rattle.pc_base.proofs.Results.{from-ok}
use Rattle.pc_office_history.specs.Record.{OfficeRecord}
use Rattle.pc_office_history.specs.Known.{said_by}
use Rattle.pc_office_history.specs.History.{◌▹◌}
use Rattle.pc_office_history.specs.Step.{after}
use Rattle.pc_office_holdings.specs.Held.{record_in}
use Rattle.pc_office_holdings.specs.State.{StandsFor, may_follow, IsSound}
use Rattle.pc_office_holdings.proofs.Entered.{record_in-entered, sound-entered}
use Rattle.pc_office.proofs.Standing.{StandsFor-after}
use Rattle.pc_office.proofs.office.Office.apply.Goals as goal

pub invariant_of-self-else-is_err : goal.invariant_of-self-else-is_err
invariant_of-self-else-is_err c =
    let held = c.self.inside.holdings in
    let stepped = from-ok c.step.result c.is_err.result c.is_err.ensures.value c.if-is_err.false c.step.ensures in
    let follows = subst (λ (r : OfficeRecord). IsTrue (may_follow (said_by r) c.args.entry.now)) (sym c.self.view_is) c.requires in
    subst IsSound (sym stepped) (sound-entered held c.self.invariant c.args.entry.now follows)

pub returns-clause-ok : goal.returns-clause-ok
returns-clause-ok c =
    let held = c.self.inside.holdings in
    let stepped = from-ok c.step.result c.is_err.result c.is_err.ensures.value c.if-is_err.false c.step.ensures in
    ap record_in stepped ∙ record_in-entered held c.args.entry.now ∙ ap (λ (r : OfficeRecord). after r c.args.entry.now) c.self.view_is

pub returns-clause-history : goal.returns-clause-history
returns-clause-history c = λ h stands. subst (λ (r : OfficeRecord). StandsFor r (h ▹ c.args.entry.now)) (sym (returns-clause-ok c)) (StandsFor-after c.args.self.now c.args.entry.now c.requires h stands)
