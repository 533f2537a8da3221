use Rattle.std.proofs.Common.{sym, ap, ◌∙◌}
use Rattle.pc_session.specs.States.{stale}
use Rattle.pc_session.specs.Turn.{SessionValue}
use Rattle.pc_session.proofs.Turns.{met-turn, stood-turn}
use Rattle.pc_session.proofs.session.Session.with_account.Goals as goal

-- src/session.rt:128:13
pub returns-in-Some-clause-turn : goal.returns-in-Some-clause-turn
returns-in-Some-clause-turn g c =
    let same = ap (λ (s : SessionValue). stale (g.K.DeskAccess.told c.args.desk.now).latest s.state c.args.request.now) c.self.view_is in
    stood-turn g.K.DeskAccess.tells (g.K.DeskAccess.user c.args.desk.now) c.args.request.now (g.K.DeskAccess.told c.args.desk.now) c.args.self.now c.fail.new.self c.fail.result c.in-Some.why (sym same ∙ sym c.in-Some.ensures) c.fail.ensures.reply c.fail.ensures.keeps

-- src/session.rt:114:5
pub returns-clause-turn : goal.returns-clause-turn
returns-clause-turn g c =
    let same = ap (λ (s : SessionValue). stale (g.K.DeskAccess.told c.args.desk.now).latest s.state c.args.request.now) c.self.view_is in
    met-turn g.K.DeskAccess.tells (g.K.DeskAccess.user c.args.desk.now) c.in-Account.user c.args.request.now (g.K.DeskAccess.told c.args.desk.now) (g.K.DeskAccess.told c.open.new.desk) (g.K.DeskAccess.told c.attend.new.desk) c.args.self.now c.attend.new.self c.attend.result (sym same ∙ sym c.in_default.ensures) c.in_default-open.ensures.opens.0 c.open.ensures.faults (c.in-Account.ensures ∙ c.requires.reach) c.attend.ensures.attended
