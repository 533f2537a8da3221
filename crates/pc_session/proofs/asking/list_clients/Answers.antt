use Rattle.std.proofs.Common.{◌≡◌, map, sym, subst}
use Rattle.pc_account_history.specs.History.{known}
use Rattle.pc_account_holdings.specs.State.{State, StandsFor}
use Rattle.pc_account.specs.Answers.{client_row}
use Rattle.pc_account.specs.declared.answer.Answer.TheVariants.{Clients}
use Rattle.pc_session.proofs.Asked.{clients-listed}
use Rattle.pc_session.proofs.asking.list_clients.Goals as goal

pub returns : goal.returns
returns g c =
    let desk = g.K.DeskAccess.told c.args.desk.now in
    let clients = (known desk.history).clients in
    let told : c.in_ok-answer.answer ≡ Clients (map client_row clients) = c.in_ok-answer.ensures.history desk.history (subst (λ (state : State). StandsFor state desk.history) (sym c.account.ensures.state) c.account.ensures.history) in
    let are : c.as_slice.result.now ≡ map client_row clients = cc in
    clients-listed c.args.state.now desk.latest clients c.as_slice.result.now c.in_ok-lines.lines c.with_lines.result are c.in_ok-lines.ensures c.with_lines.ensures.reply c.with_lines.ensures.memory
