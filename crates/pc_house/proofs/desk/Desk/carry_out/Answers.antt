use Rattle.std.proofs.Common.{Option, Ok, sym, subst}
use Rattle.std.proofs.lemmas.Result.{err_from_is_err_and}
use Rattle.pc_base.specs.AskFault.{Tells}
use Rattle.pc_account_history.specs.declared.entry.Entry.{Entry}
use Rattle.pc_account_history.specs.History.{known}
use Rattle.pc_account_holdings.specs.State.{State, StandsFor, said}
use Rattle.pc_account.specs.Plan.{planned}
use Rattle.pc_house.specs.Desk.{told_by}
use Rattle.pc_house.proofs.Enrolments.{made_carries, refused_carries, unmade_carries}
use Rattle.pc_house.proofs.desk.Desk.carry_out.Goals as goal

pub plan-requires : goal.plan-requires
plan-requires g c = c.requires.wish (said c.account.result.now)

pub returns-in-Err-Refused-clause-carries : goal.returns-in-Err-Refused-clause-carries
returns-in-Err-Refused-clause-carries g c =
    let before = told_by g.D.Disk.faults c.args.self.now in
    let stands = subst (λ (state : State). StandsFor state before.history) (sym c.account.ensures.state) c.account.ensures.history in
    let told = rw c.in-Err-Refused.field-0-is at (c.in-Err-Refused.ensures.history before.history stands) in
    refused_carries (planned (known before.history) c.args.wish.now) c.in-Err-Refused.why before c.refused_as.result told (rw c.in-Err-Refused.why-is at c.refused_as.ensures)

pub returns-in_err-commit-clause-carries : goal.returns-in_err-commit-clause-carries
returns-in_err-commit-clause-carries g c =
    let before = told_by g.D.Disk.faults c.args.self.now in
    let p = err_from_is_err_and c.from_residual.result c.from_residual.ensures.1 in
    let stands = subst (λ (state : State). StandsFor state before.history) (sym c.account.ensures.state) c.account.ensures.history in
    let told = subst (λ (plan : Option Entry). Tells (planned (known before.history) c.args.wish.now) (Ok plan)) c.in-Some.is (c.in-Ok.ensures.history before.history stands) in
    rw (p.1, p.2) (unmade_carries (planned (known before.history) c.args.wish.now) c.in-Some.entry c.in_err-commit.field-0.0 before (told_by g.D.Disk.faults c.commit.new.self) told c.in_err-commit.ensures.commits)

pub returns-clause-carries : goal.returns-clause-carries
returns-clause-carries g c =
    let before = told_by g.D.Disk.faults c.args.self.now in
    let stands = subst (λ (state : State). StandsFor state before.history) (sym c.account.ensures.state) c.account.ensures.history in
    let told = subst (λ (plan : Option Entry). Tells (planned (known before.history) c.args.wish.now) (Ok plan)) c.in-Some.is (c.in-Ok.ensures.history before.history stands) in
    made_carries (planned (known before.history) c.args.wish.now) c.in-Some.entry c.in_ok-commit.field-0 before (told_by g.D.Disk.faults c.commit.new.self) told c.in_ok-commit.ensures.commits
