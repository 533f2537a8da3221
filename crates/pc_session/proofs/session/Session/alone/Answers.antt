use Rattle.pc_session.proofs.Served.{said-alone}
use Rattle.pc_session.proofs.session.Session.alone.Goals as goal

pub returns-clause-device : goal.returns-clause-device
returns-clause-device c is = said-alone c.self.inside.state c.args.self.now.state c.conclude.new.self.state c.args.request.now c.alone-answered.result c.conclude.result c.alone-answered.ensures c.conclude.ensures.concludes is
