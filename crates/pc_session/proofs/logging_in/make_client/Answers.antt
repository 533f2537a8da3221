use Rattle.std.proofs.Common.{◌∙◌, Ok, Err, sym, refl, subst}
use Rattle.pc_account_history.specs.History.{known}
use Rattle.pc_account_holdings.specs.State.{State, StandsFor}
use Rattle.pc_account.specs.Plan.{planned}
use Rattle.pc_account.specs.declared.wish.Wish.TheVariants.{MakeClient}
use Rattle.pc_session.specs.Answering.{Comes}
use Rattle.pc_session.specs.Repository.{Outcome}
use Rattle.pc_session.proofs.Coming.{Same-refl}
use Rattle.pc_session.proofs.Entering.{full-is, enters-is, entered-comes, released-comes}
use Rattle.pc_session.proofs.logging_in.make_client.Goals as goal

pub returns-then-not-branch-clause-comes : goal.returns-then-not-branch-clause-comes
returns-then-not-branch-clause-comes g c =
    let before = g.K.DeskAccess.told c.args.desk.now in
    let login = c.args.login.now in
    (full-is before c.args.state.now login.user login.client login.batch (planned (known before.history) (MakeClient login.client)) c.in_ok-entry.entry (λ last. c.if-drawn-eq-LAST_SESSION.false (c.drawn.ensures ∙ last)) c.in_ok-entry.ensures.plan (sym c.if-not-branch.true ∙ c.in_ok-takes.ensures.room), Same-refl before, refl)

pub returns-in-Err-clause-comes : goal.returns-in-Err-clause-comes
returns-in-Err-clause-comes g c =
    let before = g.K.DeskAccess.told c.args.desk.now in
    let login = c.args.login.now in
    let room = sym c.if-not-branch.false ∙ c.in_ok-takes.ensures.room in
    let enters = enters-is before c.args.state.now login.user login.client login.batch (planned (known before.history) (MakeClient login.client)) c.in_ok-entry.entry (λ last. c.if-drawn-eq-LAST_SESSION.false (c.drawn.ensures ∙ last)) c.in_ok-entry.ensures.plan room in
    subst (λ (o : Outcome). Comes c.args.user.now o before c.args.state.now c.args.receipts.now (Err c.in-Err.failure) (g.K.DeskAccess.told c.release.new.self) c.make.new.receipts) (sym enters) (released-comes c.args.user.now login.user login.client login.batch c.in_ok-entry.entry c.args.state.now before (g.K.DeskAccess.told c.draw.new.desk) (g.K.DeskAccess.told c.make.new.desk) (g.K.DeskAccess.told c.release.new.self) c.args.receipts.now c.make.new.receipts c.in_ok-number.number c.in-Err.failure room c.in_ok-number.ensures.faults c.release.ensures.faults c.in_ok-number.ensures.draws c.in-Err.ensures.makes c.release.ensures.released)

pub returns-in-Ok-clause-comes : goal.returns-in-Ok-clause-comes
returns-in-Ok-clause-comes g c =
    let before = g.K.DeskAccess.told c.args.desk.now in
    let login = c.args.login.now in
    let room = sym c.if-not-branch.false ∙ c.in_ok-takes.ensures.room in
    let enters = enters-is before c.args.state.now login.user login.client login.batch (planned (known before.history) (MakeClient login.client)) c.in_ok-entry.entry (λ last. c.if-drawn-eq-LAST_SESSION.false (c.drawn.ensures ∙ last)) c.in_ok-entry.ensures.plan room in
    let stands = subst (λ (state : State). StandsFor state before.history) (sym c.account.ensures.state) c.account.ensures.history in
    let birth = c.next-birth.ensures.history before.history stands in
    subst (λ (o : Outcome). Comes c.args.user.now o before c.args.state.now c.args.receipts.now (Ok c.entered.result) (g.K.DeskAccess.told c.make.new.desk) c.make.new.receipts) (sym enters) (entered-comes c.args.user.now login.user login.client login.batch c.in_ok-entry.entry c.args.state.now before (g.K.DeskAccess.told c.draw.new.desk) (g.K.DeskAccess.told c.make.new.desk) c.args.receipts.now c.make.new.receipts c.in_ok-number.number c.in-Ok.field-0 c.next-birth.result c.entered.result birth c.in_ok-number.ensures.draws c.in-Ok.ensures.makes c.entered.ensures)
