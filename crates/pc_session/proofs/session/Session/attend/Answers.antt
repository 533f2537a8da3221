use Rattle.pc_session.proofs.Served.{said-at-desk}
use Rattle.pc_session.proofs.Turns.{unseen-attended}
use Rattle.pc_session.proofs.session.Session.attend.Goals as goal

-- src/attending.rt:156:13
pub returns-in-Err-clause-attended : goal.returns-in-Err-clause-attended
returns-in-Err-clause-attended g c = unseen-attended c.args.user.now c.args.request.now (g.K.DeskAccess.told c.args.desk.now) c.args.self.now c.fail.new.self c.fail.result c.in-Err.failure c.requires.doubt c.in-Err.ensures c.fail.ensures.reply c.fail.ensures.keeps

pub returns-clause-device : goal.returns-clause-device
returns-clause-device g c is =
    said-at-desk c.args.user.now (g.K.DeskAccess.told c.args.desk.now) (g.K.DeskAccess.told c.answer-answered.new.desk) c.self.inside.state c.conclude.new.self.state c.args.request.now c.self.inside.receipts c.answer-answered.new.receipts c.answer-answered.result c.conclude.result (g.K.DeskAccess.fails c.args.desk.now) c.answer-answered.ensures.comes c.conclude.ensures.concludes c.answer-answered.ensures.device is
