use Rattle.std.proofs.Common.{sym, subst}
use Rattle.pc_account_history.specs.History.{known}
use Rattle.pc_account_holdings.specs.State.{State, StandsFor}
use Rattle.pc_account.specs.Answers.{answered}
use Rattle.pc_account.specs.declared.answer.Question.TheVariants as question
use Rattle.pc_session.proofs.Asked.{selected}
use Rattle.pc_session.proofs.asking.select.Goals as goal

pub returns : goal.returns
returns g c =
    let desk = g.K.DeskAccess.told c.args.desk.now in
    selected c.args.state.now c.args.mailbox.now (answered (known desk.history) (question.Alive c.args.mailbox.now)) c.in_ok-_alive._alive c.plainly.result
    (c.in_ok-_alive.ensures.history desk.history (subst (λ (state : State). StandsFor state desk.history) (sym c.account.ensures.state) c.account.ensures.history))
    c.plainly.ensures
