use Rattle.std.proofs.Common.{Option, Ok, sym, subst}
use Rattle.std.proofs.lemmas.Result.{err_from_is_err_and}
use Rattle.pc_base.specs.AskFault.{Tells}
use Rattle.pc_account_history.specs.declared.entry.Entry.{Entry}
use Rattle.pc_account_history.specs.History.{known}
use Rattle.pc_account_holdings.specs.State.{State, StandsFor}
use Rattle.pc_account.specs.Plan.{planned}
use Rattle.pc_session.proofs.Coming.{held-comes, made-comes, unmade-comes, unplanned-comes}
use Rattle.pc_session.proofs.changing.change.Goals as goal
use Rattle.pc_session.proofs.changing.change.Goals.{in-Some+in_ok-make, in_default}

pub returns-in_err-entry-clause-comes : goal.returns-in_err-entry-clause-comes
returns-in_err-entry-clause-comes g c =
    let p = err_from_is_err_and c.from_residual.result c.from_residual.ensures.1 in
    let before = g.K.DeskAccess.told c.args.desk.now in
    let stands = subst (λ (state : State). StandsFor state before.history) (sym c.account.ensures.state) c.account.ensures.history in
    rw (p.1, p.2) (unplanned-comes c.args.user.now before c.args.state.now c.args.receipts.now (planned (known before.history) c.args.wish.now) c.in_err-entry.field-0.0 c.requires.doubt (c.in_err-entry.ensures.history before.history stands))

pub returns-in_err-make-clause-comes : goal.returns-in_err-make-clause-comes
returns-in_err-make-clause-comes g c =
    let p = err_from_is_err_and c.from_residual-in_err-make.result c.from_residual-in_err-make.ensures.1 in
    let before = g.K.DeskAccess.told c.args.desk.now in
    let stands = subst (λ (state : State). StandsFor state before.history) (sym c.account.ensures.state) c.account.ensures.history in
    let told = subst (λ (plan : Option Entry). Tells (planned (known before.history) c.args.wish.now) (Ok plan)) c.in-Some.is (c.in_ok-entry.ensures.history before.history stands) in
    rw (p.1, p.2) (unmade-comes c.args.user.now before (g.K.DeskAccess.told c.make.new.desk) c.args.state.now c.args.receipts.now c.make.new.receipts (planned (known before.history) c.args.wish.now) c.in-Some.entry c.in_err-make.field-0.0 told c.in_err-make.ensures.makes)

pub returns-clause-comes : goal.returns-clause-comes
returns-clause-comes g c =
    let before = g.K.DeskAccess.told c.args.desk.now in
    let plan = planned (known before.history) c.args.wish.now in
    let stands = subst (λ (state : State). StandsFor state before.history) (sym c.account.ensures.state) c.account.ensures.history in
    let told = c.in_ok-entry.ensures.history before.history stands in
    elim c.match-branch-2.branch [
      | in-Some+in_ok-make w ↦
          rw (w.desk-is, w.receipts-is) (made-comes c.args.user.now before (g.K.DeskAccess.told w.make.new.desk) c.args.state.now c.args.receipts.now w.make.new.receipts plan w.in-Some.entry w.in_ok-make.field-0 c.plainly.result (subst (λ (planned : Option Entry). Tells plan (Ok planned)) w.in-Some.is told) w.in_ok-make.ensures.makes c.plainly.ensures)
      | in_default w ↦
          rw (w.desk-is, w.receipts-is) (held-comes c.args.user.now before c.args.state.now c.args.receipts.now plan c.plainly.result c.requires.whole c.requires.doubt (subst (λ (planned : Option Entry). Tells plan (Ok planned)) w.in_default.is told) c.plainly.ensures)
    ]
